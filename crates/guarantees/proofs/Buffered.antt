-- One buffered register through a list of writes without a soft reset: its active byte changes at a transfer alone, and there it takes its
-- buffer byte. And what a soft reset leaves.
use mathlib.Core.Path.{◌≡◌, refl, ap, sym, ◌∙◌}
use mathlib.Core.Bool.{Bool, true, false, not, ◌&&◌, ◌||◌, or-false, false≢true}
use mathlib.Core.List.{List, [], ◌∷◌, ◌++◌}
use Prim.Native.Nat.{ℕ}
use native.Mathlib.Omega.{arith}
use borrow.Author.Tests.{eqb-true, not-true}
use lib.Dec.{eqb}
use lib.ListN.{get_or}
use lib.Seq.{get_or-set_other}
use Rattle.base_bits.specs.Bits.{bit_at}
use Rattle.base_bits.proofs.Cases.{each, and_left, and_right, or_left, or_right}
use Rattle.base_chip.specs.declared.Chip.{Chip}
use Rattle.base_chip.specs.declared.Chip.TheVariants.{Newer, Older}
use Rattle.base_chip.specs.Registers.{configuration_a, configuration_b}
use Rattle.base_chip.specs.Chip.{is_newer, transfer_place}
use Rattle.map_format.specs.Format.{register_at, plain, buffered, control}
use Rattle.map_test.specs.MapTest.{map_number}
use Rattle.map_test.proofs.Laws.{control_at, control_transfer}
use Rattle.base_card.specs.Card.{is_mirror}
use Rattle.bus_settings.specs.Bits.{transfer_bit}
use Rattle.bus_settings.specs.Settings.{resets}
use Rattle.reg_banks.specs.Banks.{Banks, Mapped, default_banks, transferred}
use Rattle.reg_banks.proofs.Laws.{in_banks, get_d_transfer_lem}
use Rattle.reg_write.specs.declared.Effect.{Effect}
use Rattle.reg_write.specs.declared.Effect.TheVariants.{Control, Transfer, Reset, Ignored}
use Rattle.reg_write.specs.Effect.{control_effect, effect_of}
use Rattle.reg_write.specs.Write.{effect_at, applied, write_banks}
use Rattle.reg_write.specs.Rise.{moves_at_rise, armed_by, rise_banks}
use Rattle.reg_write.proofs.Laws.{mapped_write}
use Rattle.send_order.specs.Order.{RunByte}
use Rattle.guarantees.specs.Book.{write_all, armed_all, sets_anything, clear_of_settings}
use Rattle.guarantees.specs.InForce.{is_transfer, any_transfer, is_reset, any_reset, ClearOfResets, any_buffered}

-- the byte in force at an address
abbrev pub in_force : ℕ → Banks → ℕ
in_force a b = get_or b.active a 0

-- ---- one write

-- a transfer is no soft reset either
not_at_zero : (c : Chip) (a : ℕ) → a ≡ transfer_place c → (is_newer c && eqb a configuration_a) ≡ false
not_at_zero Newer a e = rw e
not_at_zero (Older part top) a e = refl

-- and a write to 0x0000 is no transfer
zero_no_transfer : (c : Chip) (p : RunByte) → (is_newer c && eqb p.address configuration_a) ≡ true → is_transfer c p ≡ false
zero_no_transfer c p z = by (is_transfer c p) refl
  where
    by : (t : Bool) → is_transfer c p ≡ t → t ≡ false
    by true e =
        let there = eqb-true p.address (transfer_place c) (and_left (eqb p.address (transfer_place c)) (bit_at p.byte transfer_bit) e) in
        absurd (false≢true (sym (not_at_zero c p.address there) ∙ z))
    by false e = refl

-- where no soft reset is asked for, a write to a control register is a transfer; or it sets something, or is ignored
no_reset_effect :
    (P : Effect → Type 0) (c : Chip) (p : RunByte) → is_reset c p ≡ false
    → (is_transfer c p ≡ true → P Transfer) → (is_transfer c p ≡ false → P Control × P Ignored)
    → P (control_effect c p.address p.byte)
unfolding control_effect
no_reset_effect P c p calm moves other =
    each P (is_newer c && eqb p.address configuration_a)
    (λ z. each P (is_mirror p.byte)
    (λ i. each P (resets p.byte) (λ r. absurd (false≢true (sym (rw (z, i, r) at calm)))) (λ r. (other (zero_no_transfer c p z)).0))
    (λ i. (other (zero_no_transfer c p z)).1))
    (λ z. each P (is_transfer c p) moves (λ t. (other t).0))

-- in a good map the transfer's register is a control register, so a transfer copies the buffer stage
transfer_write :
    (c : Chip) (m : List ℕ) (b : Banks) (p : RunByte) → map_number c m ≡ 0 → is_transfer c p ≡ true
    → write_banks c m b p.address p.byte ≡ transferred m b
unfolding write_banks applied effect_of control_effect
transfer_write c m b p good t =
    let there : p.address ≡ transfer_place c =
    eqb-true p.address (transfer_place c) (and_left (eqb p.address (transfer_place c)) (bit_at p.byte transfer_bit) t) in
    let kind : (register_at m p.address).kind ≡ control = ap (λ (a : ℕ). (register_at m a).kind) there ∙ control_transfer c m good in
    rw (kind, not_at_zero c p.address there, t)

module _ (c : Chip) (m : List ℕ) (a : ℕ) (kind : (register_at m a).kind ≡ buffered) where
  -- any other write keeps the byte in force: a plain register stands at another address
  kept_write :
      (b : Banks) (p : RunByte) → is_reset c p ≡ false → is_transfer c p ≡ false
      → in_force a (write_banks c m b p.address p.byte) ≡ in_force a b
  unfolding write_banks applied effect_of
  kept_write b p calm quiet =
      each Kept (eqb there plain) (λ t. get_or-set_other b.active p.address a _ 0 (elsewhere t))
      (λ _. each Kept (eqb there buffered) (λ _. refl)
      (λ _. each Kept (eqb there control) (λ _. no_reset_effect Kept c p calm (λ t. absurd (false≢true (sym quiet ∙ t))) (λ _. (refl, refl)))
      (λ _. refl)))
    where
      Kept : Effect → Type 0
      Kept e = in_force a (applied m b e) ≡ in_force a b

      there : ℕ
      there = (register_at m p.address).kind

      elsewhere : eqb there plain ≡ true → a ≡ p.address → ⊥
      elsewhere t e = omega (arith, eqb-true there plain t, ap (λ (x : ℕ). (register_at m x).kind) e)

  pub transferred_at : (b : Banks) → Mapped m b → in_force a (transferred m b) ≡ get_or b.buffer a 0
  unfolding transferred
  transferred_at b h = get_d_transfer_lem m b.active b.buffer a (in_banks h kind (λ z. omega arith)).0 ∙ rw kind

-- ---- a list of writes

reset_append : (c : Chip) (ps qs : List RunByte) → any_reset c (ps ++ qs) ≡ (any_reset c ps || any_reset c qs)
unfolding any_reset
reset_append c [] qs = refl
reset_append c (p ∷ ps) qs = rw (reset_append c ps qs) (sym (or_join (is_reset c p) (any_reset c ps) (any_reset c qs)))
  where
    or_join : (x y z : Bool) → ((x || y) || z) ≡ (x || (y || z))
    or_join true y z = refl
    or_join false y z = refl

-- a run clear of the settings asks for none
pub clear_of_resets : ClearOfResets
unfolding clear_of_settings any_reset
clear_of_resets c [] clear = refl
clear_of_resets c (p ∷ ps) clear =
    rw (calm c p (not-true (sets_anything c p) (and_left (not (sets_anything c p)) (clear_of_settings c ps) clear)))
    (clear_of_resets c ps (and_right (not (sets_anything c p)) (clear_of_settings c ps) clear))
  where
    calm : (c : Chip) (p : RunByte) → sets_anything c p ≡ false → is_reset c p ≡ false
    calm Newer p h = rw (or_left (eqb p.address configuration_a) (eqb p.address configuration_b) h) refl
    calm (Older part top) p h = refl

write_append : (c : Chip) (m : List ℕ) (ps qs : List RunByte) (b : Banks) → write_all c m (ps ++ qs) b ≡ write_all c m qs (write_all c m ps b)
unfolding write_all
write_append c m [] qs b = refl
write_append c m (p ∷ ps) qs b = write_append c m ps qs (write_banks c m b p.address p.byte)

pub mapped_all : (c : Chip) (m : List ℕ) (ps : List RunByte) (b : Banks) → Mapped m b → Mapped m (write_all c m ps b)
unfolding write_all
mapped_all c m [] b h = h
mapped_all c m (p ∷ ps) b h = mapped_all c m ps (write_banks c m b p.address p.byte) (mapped_write h c p.address p.byte)

module _ (c : Chip) (m : List ℕ) (a : ℕ) (kind : (register_at m a).kind ≡ buffered) where
  -- with no transfer among them, the byte in force stays
  pub kept_all :
      (ps : List RunByte) (b : Banks) → any_reset c ps ≡ false → any_transfer c ps ≡ false
      → in_force a (write_all c m ps b) ≡ in_force a b
  unfolding write_all any_reset any_transfer
  kept_all [] b calm quiet = refl
  kept_all (p ∷ ps) b calm quiet =
      kept_all ps (write_banks c m b p.address p.byte) (or_right (is_reset c p) (any_reset c ps) calm)
      (or_right (is_transfer c p) (any_transfer c ps) quiet)
      ∙ kept_write c m a kind b p (or_left (is_reset c p) (any_reset c ps) calm)
      (or_left (is_transfer c p) (any_transfer c ps) quiet)

  -- the last transfer puts in force what the buffer stage then held
  pub moved_last :
      (before : List RunByte) (p : RunByte) (later : List RunByte) (b : Banks) → map_number c m ≡ 0 → Mapped m b
      → any_reset c (before ++ (p ∷ later)) ≡ false → is_transfer c p ≡ true → any_transfer c later ≡ false
      → in_force a (write_all c m (before ++ (p ∷ later)) b) ≡ get_or (write_all c m before b).buffer a 0
  unfolding write_all any_reset
  moved_last before p later b good h calm t quiet =
      ap (in_force a) (write_append c m before (p ∷ later) b)
      ∙ kept_all later (write_banks c m then p.address p.byte) calm_later quiet
      ∙ ap (in_force a) (transfer_write c m then p good t)
      ∙ transferred_at c m a kind then (mapped_all c m before b h)
    where
      then : Banks
      then = write_all c m before b

      calm_later : any_reset c later ≡ false
      calm_later =
          or_right (is_reset c p) (any_reset c later) (or_right (any_reset c before) (any_reset c (p ∷ later)) (sym (reset_append c before (p ∷ later)) ∙ calm))

-- ---- which runs arm a session: one of its bytes goes to a buffered register, and the rise can move bytes

armed_one : (c : Chip) (m : List ℕ) (b : Banks) (armed : Bool) (p : RunByte) → is_reset c p ≡ false
    → armed_by c m armed (effect_at c m b p.address p.byte)
    ≡ (armed || (eqb (register_at m p.address).kind buffered && moves_at_rise c m))
unfolding armed_by effect_of
armed_one c m b armed p calm = by (eqb kind plain) (eqb kind buffered) (eqb kind control) refl refl refl
  where
    kind : ℕ
    kind = (register_at m p.address).kind

    controls : armed_by c m armed (control_effect c p.address p.byte) ≡ armed
    controls = no_reset_effect (λ (e : Effect). armed_by c m armed e ≡ armed) c p calm (λ _. refl) (λ _. (refl, refl))

    by : (f g h : Bool) → eqb kind plain ≡ f → eqb kind buffered ≡ g → eqb kind control ≡ h
        → armed_by c m armed (effect_at c m b p.address p.byte)
        ≡ (armed || (eqb kind buffered && moves_at_rise c m))
    by true g h ef eg eh = rw (eqb-true kind plain ef) (sym (or-false armed))
    by false true h ef eg eh = rw (ef, eg) refl
    by false false true ef eg eh = rw (ef, eg, eh) (controls ∙ sym (or-false armed))
    by false false false ef eg eh = rw (ef, eg, eh) (sym (or-false armed))

one_or_later : (k x y z : Bool) → ((k || (x && z)) || (y && z)) ≡ (k || ((x || y) && z))
one_or_later true x y z = refl
one_or_later false true true true = refl
one_or_later false true true false = refl
one_or_later false true false true = refl
one_or_later false true false false = refl
one_or_later false false y z = refl

pub armed_all_lem : (c : Chip) (m : List ℕ) (ps : List RunByte) (b : Banks) (armed : Bool) → any_reset c ps ≡ false
    → armed_all c m ps b armed ≡ (armed || (any_buffered m ps && moves_at_rise c m))
unfolding armed_all any_reset any_buffered
armed_all_lem c m [] b armed calm = sym (or-false armed)
armed_all_lem c m (p ∷ ps) b armed calm =
    armed_all_lem c m ps (write_banks c m b p.address p.byte) _ (or_right (is_reset c p) (any_reset c ps) calm)
    ∙ ap (λ (k : Bool). k || (any_buffered m ps && moves_at_rise c m)) (armed_one c m b armed p (or_left (is_reset c p) (any_reset c ps) calm))
    ∙ one_or_later armed (eqb (register_at m p.address).kind buffered) (any_buffered m ps) (moves_at_rise c m)

-- ---- a soft reset forgets what came before it

armed_append : (c : Chip) (m : List ℕ) (ps qs : List RunByte) (b : Banks) (armed : Bool)
    → armed_all c m (ps ++ qs) b armed ≡ armed_all c m qs (write_all c m ps b) (armed_all c m ps b armed)
unfolding armed_all write_all
armed_append c m [] qs b armed = refl
armed_append c m (p ∷ ps) qs b armed = armed_append c m ps qs (write_banks c m b p.address p.byte) _

-- in a good map 0x0000 of a newer chip is a control register
reset_effect : (c : Chip) (m : List ℕ) (b : Banks) (p : RunByte) → map_number c m ≡ 0 → is_reset c p ≡ true
    → effect_at c m b p.address p.byte ≡ Reset
unfolding effect_of control_effect
reset_effect (Older part top) m b p good r = absurd (false≢true r)
reset_effect Newer m b p good r =
    let zero-place = and_left (eqb p.address configuration_a) (is_mirror p.byte && resets p.byte) r in
    let both = and_right (eqb p.address configuration_a) (is_mirror p.byte && resets p.byte) r in
    let kind : (register_at m p.address).kind ≡ control =
    ap (λ (a : ℕ). (register_at m a).kind) (eqb-true p.address configuration_a zero-place) ∙ control_at Newer m good configuration_a (omega arith) refl in
    rw (kind, zero-place, and_left (is_mirror p.byte) (resets p.byte) both, and_right (is_mirror p.byte) (resets p.byte) both) refl

pub after_whole_reset : (c : Chip) (m : List ℕ) (before : List RunByte) (p : RunByte) (later : List RunByte) (b : Banks) → map_number c m ≡ 0
    → is_reset c p ≡ true
    → rise_banks c m (armed_all c m (before ++ (p ∷ later)) b false) (write_all c m (before ++ (p ∷ later)) b)
    ≡ rise_banks c m (armed_all c m later (default_banks m) false) (write_all c m later (default_banks m))
unfolding write_all armed_all write_banks applied armed_by
after_whole_reset c m before p later b good r =
    let then = write_all c m before b in
    let e = reset_effect c m then p good r in
    ap (λ (k : Bool). rise_banks c m k (write_all c m (before ++ (p ∷ later)) b)) (armed_append c m before (p ∷ later) b false)
    ∙ ap (rise_banks c m (armed_all c m (p ∷ later) then (armed_all c m before b false))) (write_append c m before (p ∷ later) b)
    ∙ rw e refl
