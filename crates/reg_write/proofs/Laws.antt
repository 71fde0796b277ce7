-- Laws of a write: an effect on a byte is within the banks, and a write keeps their sizes.
use mathlib.Core.Path.{◌≡◌, refl, sym, ◌∙◌, ap, subst}
use mathlib.Core.Bool.{Bool, true, false, cond, ◌&&◌, ◌||◌, xor, false≢true}
use mathlib.Core.List.{List}
use Prim.Native.Nat.{ℕ, ◌<◌}
use native.Mathlib.Omega.{arith}
use borrow.Author.Tests.{eqb-true}
use lib.ListN.{length, get_or, length-set}
use lib.Seq.{get_or-set_same}
use lib.Bits.{bit_xor}
use lib.Dec.{eqb}
use Rattle.base_bits.specs.Bits.{bit_at, merged}
use Rattle.base_bits.proofs.Cases.{each, or_left, or_right}
use Rattle.base_bits.proofs.Laws.{merged_bit, xor_bit}
use Rattle.map_format.specs.declared.Entry.{Entry}
use Rattle.map_format.specs.Format.{register_at, plain, buffered, control}
use Rattle.base_card.specs.Card.{is_mirror}
use Rattle.base_chip.specs.declared.Chip.{Chip}
use Rattle.base_chip.specs.Chip.{is_newer}
use Rattle.bus_settings.specs.declared.Settings.{Settings}
use Rattle.bus_settings.specs.Settings.{resets, transfers_at}
use Rattle.reg_banks.specs.Banks.{Banks, Mapped}
use Rattle.reg_banks.proofs.Laws.{mapped_defaults, mapped_transfer, in_banks}
use Rattle.reg_write.specs.declared.Stages.{Stages}
use Rattle.reg_write.specs.declared.Effect.{Effect}
use Rattle.reg_write.specs.declared.Effect.TheVariants.{Nothing, Byte, Control, Transfer, Reset, Ignored}
use Rattle.reg_write.specs.declared.Written.{Written}
use Rattle.reg_write.specs.Effect.{control_effect, moved_bits, effect_of, byte_effect}
use Rattle.reg_write.specs.Write.{effect_at, applied, on_byte, ByteBelow, touches_on, write_banks, written, written_by, written_of}
use Rattle.reg_write.specs.Rise.{moves_at_rise, armed_by, armed_on, rise_banks}

-- ---- no effect on a control register is on a byte

pub control_apart : (c : Chip) (a v : ℕ) → on_byte (control_effect c a v) ≡ false
unfolding control_effect
control_apart c a v =
    each Apart (is_newer c && eqb a 0x0000) (λ e. each Apart (is_mirror v) (λ e. each Apart (resets v) (λ e. refl) (λ e. refl)) (λ e. refl))
    (λ e. each Apart (transfers_at c a v) (λ e. refl) (λ e. refl))
  where
    Apart : Effect → Type 0
    Apart e = on_byte e ≡ false

-- ---- the bits that moved

-- Bit i of them is one exactly where the mask lets the bit through and that of v differs from the old one.
pub moved_bit : (old v mask i : ℕ) → i < 8 → bit_at (moved_bits old v mask) i ≡ (bit_at mask i && xor (bit_at old i) (bit_at v i))
unfolding xor
moved_bit old v mask i h =
    xor_bit old (merged 8 old v mask) i ∙ rw (merged_bit 8 old v mask i h) (through (bit_at mask i) (bit_at old i) (bit_at v i))
  where
    through : (m o n : Bool) → xor o (cond m n o) ≡ (m && xor o n)
    through true o n = refl
    through false true n = refl
    through false false n = refl

-- ---- an effect on the banks

-- an effect on a byte is within the banks
pub effect_within : (c : Chip) {m : List ℕ} {b : Banks} → Mapped m b → (s : Stages) (a v : ℕ)
    → on_byte (effect_of c (register_at m a) s a v) ≡ true → a < length b.active
unfolding effect_of
effect_within c {m} {b} h s a v =
    each Inside (eqb (register_at m a).kind plain) (λ k t. (in_banks h (eqb-true _ _ k) (λ z. omega arith)).0)
    (λ _. each Inside (eqb (register_at m a).kind buffered) (λ k t. (in_banks h (eqb-true _ _ k) (λ z. omega arith)).0)
    (λ _. each Inside (eqb (register_at m a).kind control) (λ k t. absurd (false≢true (sym (control_apart c a v) ∙ t)))
    (λ _ t. absurd (false≢true t))))
  where
    Inside : Effect → Type 0
    Inside e = on_byte e ≡ true → a < length b.active

-- the address of an effect on a byte
address_of : Effect → ℕ
address_of Nothing = 0
address_of (Byte ofBuffer a byte moved) = a
address_of Control = 0
address_of Transfer = 0
address_of Reset = 0
address_of Ignored = 0

-- is that of the register written
effect_address : (c : Chip) (e : Entry) (s : Stages) (a v : ℕ) → on_byte (effect_of c e s a v) ≡ true → address_of (effect_of c e s a v) ≡ a
unfolding effect_of address_of
effect_address c e s a v =
    each There (eqb e.kind plain) (λ k t. refl)
    (λ _. each There (eqb e.kind buffered) (λ k t. refl)
    (λ _. each There (eqb e.kind control) (λ k t. absurd (false≢true (sym (control_apart c a v) ∙ t)))
    (λ _ t. absurd (false≢true t))))
  where
    There : Effect → Type 0
    There e = on_byte e ≡ true → address_of e ≡ a

pub byte_below : (c : Chip) {m : List ℕ} {b : Banks} → Mapped m b → (s : Stages) (a v : ℕ)
    → ByteBelow (length b.active) (effect_of c (register_at m a) s a v)
unfolding address_of
byte_below c {m} {b} h s a v ofBuffer at byte moved e =
    subst (λ (k : ℕ). k < length b.active) (sym (effect_address c (register_at m a) s a v on) ∙ ap address_of e) (effect_within c h s a v on)
  where
    on : on_byte (effect_of c (register_at m a) s a v) ≡ true
    on = ap on_byte e

module _ {m : List ℕ} {b : Banks} (h : Mapped m b) where
  -- What a write answers as moved is the difference of the register's byte before and after it, in the stage that it is written to.
  pub moved_active : (c : Chip) (t : Settings) (a v : ℕ) → (register_at m a).kind ≡ plain
      → (written_of c m b t a v).moved ≡ bit_xor (get_or b.active a 0) (get_or (write_banks c m b a v).active a 0)
  unfolding effect_of applied write_banks written_by
  moved_active c t a v k =
      let inside : a < length b.active = (in_banks h k (λ z. omega arith)).0 in
      rw k (ap (bit_xor (get_or b.active a 0)) (sym (get_or-set_same b.active a _ 0 inside)))

  pub moved_buffer : (c : Chip) (t : Settings) (a v : ℕ) → (register_at m a).kind ≡ buffered
      → (written_of c m b t a v).moved ≡ bit_xor (get_or b.buffer a 0) (get_or (write_banks c m b a v).buffer a 0)
  unfolding effect_of applied write_banks written_by
  moved_buffer c t a v k =
      let inside : a < length b.buffer = (in_banks h k (λ z. omega arith)).1 in
      rw k (ap (bit_xor (get_or b.buffer a 0)) (sym (get_or-set_same b.buffer a _ 0 inside)))

  mapped_applied : (e : Effect) → Mapped m (applied m b e)
  unfolding applied
  mapped_applied Nothing = h
  mapped_applied (Byte false a byte moved) = record { active_size = simp length-set h.active_size; buffer_size = h.buffer_size }
  mapped_applied (Byte true a byte moved) = record { active_size = h.active_size; buffer_size = simp length-set h.buffer_size }
  mapped_applied Control = h
  mapped_applied Transfer = mapped_transfer h
  mapped_applied Reset = mapped_defaults m
  mapped_applied Ignored = h

  pub mapped_write : (c : Chip) (a v : ℕ) → Mapped m (write_banks c m b a v)
  unfolding write_banks
  mapped_write c a v = mapped_applied (effect_at c m b a v)

  pub mapped_rise : (c : Chip) (armed : Bool) → Mapped m (rise_banks c m armed b)
  unfolding rise_banks
  mapped_rise c armed = each (Mapped m) (armed && moves_at_rise c m) (λ e. mapped_transfer h) (λ e. h)

-- the number of an effect arms a session just as the effect does
pub armed_number : (c : Chip) (m : List ℕ) (armed : Bool) (t : Settings) (a v : ℕ) (e : Effect)
    → armed_on (moves_at_rise c m) armed (written_by c t a v e).effect ≡ armed_by c m armed e
unfolding armed_on armed_by written_by
armed_number c m armed t a v Nothing = refl
armed_number c m armed t a v (Byte false at byte moved) = refl
armed_number c m armed t a v (Byte true at byte moved) = refl
armed_number c m armed t a v Control = refl
armed_number c m armed t a v Transfer = refl
armed_number c m armed t a v Reset = refl
armed_number c m armed t a v Ignored = refl

pub armed_written : (c : Chip) (m : List ℕ) (armed : Bool) (t : Settings) (a v : ℕ) (e : Effect) {moves : Bool} {w : Written}
    → moves ≡ moves_at_rise c m → w ≡ written_by c t a v e → armed_on moves armed w.effect ≡ armed_by c m armed e
armed_written c m armed t a v e em ew = rw (em, ew) (armed_number c m armed t a v e)

-- and it touches a register just as the effect does
pub touches_number : (c : Chip) (t : Settings) (a v : ℕ) (e : Effect) → touches_on (written_by c t a v e).effect ≡ on_byte e
unfolding written_by
touches_number c t a v Nothing = refl
touches_number c t a v (Byte false at byte moved) = refl
touches_number c t a v (Byte true at byte moved) = refl
touches_number c t a v Control = refl
touches_number c t a v Transfer = refl
touches_number c t a v Reset = refl
touches_number c t a v Ignored = refl

-- ---- a byte of one of two stages

-- of two tests that don't hold together one holds
one_holds : (p q : Bool) (x y z : Effect) → (p || q) ≡ true → (p ≡ true → q ≡ false) → cond p x (cond q y z) ≡ cond q y x
one_holds true true x y z h apart = absurd (false≢true (sym (apart refl)))
one_holds true false x y z h apart = refl
one_holds false true x y z h apart = refl
one_holds false false x y z h apart = absurd (false≢true h)

-- one of two bytes and whether it is the buffer's, in one effect
byte_of : (ofBuffer : Bool) (a : ℕ) (s : Stages) (v mask : ℕ)
    → cond ofBuffer (byte_effect true a s.buffer v mask) (byte_effect false a s.active v mask)
    ≡ byte_effect ofBuffer a (cond ofBuffer s.buffer s.active) v mask
byte_of true a s v mask = refl
byte_of false a s v mask = refl

-- the effect on a register of kind 2 or 3, by whether it is of kind 3
pub byte_effect_lem : (c : Chip) (e : Entry) (s : Stages) (a v : ℕ) {old byte : ℕ} → (eqb e.kind plain || eqb e.kind buffered) ≡ true
    → old ≡ cond (eqb e.kind buffered) s.buffer s.active → byte ≡ merged 8 old v e.mask
    → Byte (eqb e.kind buffered) a byte (bit_xor old byte) ≡ effect_of c e s a v
unfolding effect_of
byte_effect_lem c e s a v h eo eb =
    rw (eb, eo)
    (sym (one_holds (eqb e.kind plain) (eqb e.kind buffered) _ _ _ h (λ t. ap (λ (k : ℕ). eqb k buffered) (eqb-true e.kind plain t))
    ∙ byte_of (eqb e.kind buffered) a s v e.mask))

-- the effect on a register of any other kind
pub other_effect : (c : Chip) (e : Entry) (s : Stages) (a v : ℕ) → (eqb e.kind plain || eqb e.kind buffered) ≡ false
    → cond (eqb e.kind control) (control_effect c a v) Nothing ≡ effect_of c e s a v
unfolding effect_of
other_effect c e s a v h =
    rw (or_left (eqb e.kind plain) (eqb e.kind buffered) h, or_right (eqb e.kind plain) (eqb e.kind buffered) h) refl

-- the number of an effect on a byte
pub byte_number : (c : Chip) (t : Settings) (a v : ℕ) (ofBuffer : Bool) (at byte moved : ℕ) {number : ℕ} → number ≡ cond ofBuffer 2 1
    → written byte number moved ≡ written_by c t a v (Byte ofBuffer at byte moved)
unfolding written_by
byte_number c t a v true at byte moved h = rw h refl
byte_number c t a v false at byte moved h = rw h refl

-- a buffered register's byte arms a session that the rise concerns, without a branch
pub armed_joined : (armed one moves : Bool) → (armed || (one && moves)) ≡ cond one (armed || moves) armed
armed_joined true true moves = refl
armed_joined true false moves = refl
armed_joined false true moves = refl
armed_joined false false moves = refl
