-- The chips of a list with other sessions and marks, one by one.
use mathlib.Core.Path.{◌≡◌, refl, ap, ap₂, ◌∙◌}
use mathlib.Core.Bool.{Bool, true, false, ◌&&◌, ◌||◌}
use mathlib.Core.List.{List, [], ◌∷◌}
use Prim.Native.Nat.{ℕ, zero, suc, ◌<◌, ◌≤◌}
use native.Mathlib.Omega.{arith}
use borrow.Author.Tests.{leb-true}
use lib.Dec.{eqb, leb}
use lib.ListN.{length, get_or, set}
use Rattle.base_bits.specs.Bits.{bit_of}
use Rattle.base_bits.proofs.Cases.{and_left, and_right}
use Rattle.base_chip.specs.declared.Chip.TheVariants.{Newer}
use Rattle.bus_session.specs.declared.Session.{Session}
use Rattle.bus_session.specs.State.{sound_session}
use Rattle.bus_session_bytes.specs.Layout.{are_session, session_of}
use Rattle.bus_session_bytes.proofs.Laws.{session_back, bytes_back}
use Rattle.reg_banks.specs.Banks.{Banks}
use Rattle.several_chips.specs.declared.Member.{Member}
use Rattle.several_chips.specs.State.{State, mid_read}
use Rattle.several_chips.specs.Members.{state_of, member_with, states_of, members_with, mark_good, sound_member}
use Rattle.several_chips.specs.Numbers.{all_sound}
use Rattle.several_chips.specs.Promises.{AllBytes}

pub length_with : (ws : List Member) (ss : List State) → length ss ≡ length ws → length (members_with ws ss) ≡ length ws
unfolding members_with
length_with [] ss e = refl
length_with (w ∷ ws) [] e = absurd (omega (arith, e))
length_with (w ∷ ws) (s ∷ ss) e = ap suc (length_with ws ss (omega (arith, e)))

pub with_at : (ws : List Member) (ss : List State) (k : ℕ) (d : Member) (e : State) → length ss ≡ length ws → k < length ws
    → get_or (members_with ws ss) k d ≡ member_with (get_or ws k d) (get_or ss k e)
unfolding members_with
with_at [] ss k d e same h = absurd (omega arith)
with_at (w ∷ ws) [] k d e same h = absurd (omega (arith, same))
with_at (w ∷ ws) (s ∷ ss) zero d e same h = refl
with_at (w ∷ ws) (s ∷ ss) (suc k) d e same h = with_at ws ss k d e (omega (arith, same)) (omega arith)

pub with_set : (ws : List Member) (ss : List State) (k : ℕ) (d : Member) (s : State) → length ss ≡ length ws → k < length ws
    → set (members_with ws ss) k (member_with (get_or ws k d) s) ≡ members_with ws (set ss k s)
unfolding members_with
with_set [] ss k d s same h = absurd (omega arith)
with_set (w ∷ ws) [] k d s same h = absurd (omega (arith, same))
with_set (w ∷ ws) (t ∷ ss) zero d s same h = refl
with_set (w ∷ ws) (t ∷ ss) (suc k) d s same h = ap (λ (l : List Member). member_with w t ∷ l) (with_set ws ss k d s (omega (arith, same)) (omega arith))

-- ---- to bytes and back

mark_back : (c : Bool) → eqb (bit_of c) 1 ≡ c
mark_back true = refl
mark_back false = refl

byte_back : (x : ℕ) → x ≤ 1 → bit_of (eqb x 1) ≡ x
byte_back zero h = refl
byte_back (suc zero) h = refl
byte_back (suc (suc x)) h = absurd (omega arith)

abbrev state : Session → Bool → Banks → State
state s c b = record { session = s; contended = c; banks = b }

-- a chip that holds a state and whose ranges hold its banks
pub state_back : (mem : List ℕ) (w : Member) (s : State) → (state_of mem w).banks ≡ s.banks → state_of mem (member_with w s) ≡ s
state_back mem w s e =
    ap₂ (λ (t : Session) (c : Bool). state t c (state_of mem w).banks) (session_back s.session) (mark_back s.contended)
    ∙ ap (state s.session s.contended) e

-- the parts of soundness
are_bytes : (w : Member) → sound_member w ≡ true → are_session w.session ≡ true
unfolding sound_member
are_bytes w e = and_left (are_session w.session) (sound_session Newer (session_of w.session) && mark_good w) e

mark_small : (w : Member) → sound_member w ≡ true → w.contended ≤ 1
unfolding sound_member
mark_small w e =
    let marked =
    and_right (sound_session Newer (session_of w.session)) (mark_good w)
    (and_right (are_session w.session) (sound_session Newer (session_of w.session) && mark_good w) e) in
    leb-true _ _ (and_left (leb w.contended 1) (eqb w.contended 0 || mid_read (session_of w.session).port) marked)

member_back : (mem : List ℕ) (w : Member) → sound_member w ≡ true → ((i : ℕ) → get_or w.session i 0 < 256) → member_with w (state_of mem w) ≡ w
member_back mem w sound small =
    ap₂ (λ (b : List ℕ) (c : ℕ). record {
      session = b;
      contended = c;
      active_start = w.active_start;
      active_length = w.active_length;
      buffer_start = w.buffer_start;
      buffer_length = w.buffer_length;
    }) (bytes_back w.session (are_bytes w sound) small) (byte_back w.contended (mark_small w sound))

-- chips that are sound hold what their bytes say
pub with_same : (mem : List ℕ) (ws : List Member) → all_sound ws ≡ true → AllBytes ws → members_with ws (states_of mem ws) ≡ ws
unfolding members_with all_sound
with_same mem [] sound small = refl
with_same mem (w ∷ ws) sound small =
    ap₂ (λ (v : Member) (vs : List Member). v ∷ vs) (member_back mem w (and_left (sound_member w) (all_sound ws) sound) small.0)
    (with_same mem ws (and_right (sound_member w) (all_sound ws) sound) small.1)

-- ---- sound ones

pub sound_at : (ws : List Member) (k : ℕ) (d : Member) → all_sound ws ≡ true → k < length ws → sound_member (get_or ws k d) ≡ true
unfolding all_sound
sound_at [] k d e h = absurd (omega arith)
sound_at (w ∷ ws) zero d e h = and_left (sound_member w) (all_sound ws) e
sound_at (w ∷ ws) (suc k) d e h = sound_at ws k d (and_right (sound_member w) (all_sound ws) e) (omega arith)

both : (a b : Bool) → a ≡ true → b ≡ true → (a && b) ≡ true
both true b e f = f
both false b e f = e

pub sound_set : (ws : List Member) (k : ℕ) (w : Member) → all_sound ws ≡ true → sound_member w ≡ true → all_sound (set ws k w) ≡ true
unfolding all_sound
sound_set [] k w e h = refl
sound_set (v ∷ ws) zero w e h = both (sound_member w) (all_sound ws) h (and_right (sound_member v) (all_sound ws) e)
sound_set (v ∷ ws) (suc k) w e h =
    both (sound_member v) (all_sound (set ws k w)) (and_left (sound_member v) (all_sound ws) e) (sound_set ws k w (and_right (sound_member v) (all_sound ws) e) h)
