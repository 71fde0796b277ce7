-- One entry: mended it is good, and a good one is left as it is.
use mathlib.Core.Path.{◌≡◌, refl, ap, sym, ◌∙◌}
use mathlib.Core.Bool.{Bool, true, false, cond, not, ◌&&◌, false≢true}
use Prim.Native.Nat.{ℕ, zero, suc, ◌≤◌}
use native.Mathlib.Omega.{arith}
use lib.Dec.{eqb, leb, ltb}
use borrow.Author.Tests.{eqb-true, eqb-false, ltb-true, ltb-false, leb-true, le-leb, ne_eqb, not-true}
use Rattle.base_bits.proofs.Cases.{each, and_left, and_right}
use Rattle.base_bits.proofs.Tables.{all_below, below}
use Rattle.map_format.specs.declared.Entry.{Entry}
use Rattle.map_format.specs.Format.{blank, buffered, control}
use Rattle.map_test.specs.MapTest.{kind_rule, place_kind, place_rule, entry_good, free, place_kinds}
use Rattle.map_test.specs.MapTest.{vendor_low_place, vendor_low, vendor_high_place, vendor_high, scratch_place, scratch_mask}
use Rattle.map_test.proofs.PlaceKinds.{beyond_table}
use Rattle.map_mend.specs.Entry.{entry, mended_kind, cleared, with_fixed_bytes, mended_at}

-- the places of the map test's table
abbrev places : ℕ
places = 16

-- ---- mended, an entry is good

-- an entry that has at a free place the kind k
abbrev placed : ℕ → ℕ → ℕ → ℕ → Entry
placed a k mask default = with_fixed_bytes a (cleared (entry (cond (eqb (place_kind a) free) k (place_kind a)) mask default))

-- at the sixteen places, computed for each kind that may stand at a free one
good_below : (k mask default : ℕ) → k ≤ buffered → all_below (λ (a : ℕ). entry_good place_kinds a (placed a k mask default)) places ≡ true
unfolding entry_good kind_rule place_rule cleared with_fixed_bytes
good_below zero mask default h = refl
good_below (suc zero) mask default h = refl
good_below (suc (suc zero)) mask default h = refl
good_below (suc (suc (suc zero))) mask default h = refl
good_below (suc (suc (suc (suc k)))) mask default h = absurd (omega arith)

good_free : (k mask default : ℕ) → k ≤ buffered
    → let e = cleared (entry k mask default) in (kind_rule e && not (eqb e.kind control)) ≡ true
unfolding kind_rule cleared
good_free zero mask default h = refl
good_free (suc zero) mask default h = refl
good_free (suc (suc zero)) mask default h = refl
good_free (suc (suc (suc zero))) mask default h = refl
good_free (suc (suc (suc (suc k)))) mask default h = absurd (omega arith)

-- beyond them all is free, and no byte is fixed
good_beyond : (a k mask default : ℕ) → places ≤ a → k ≤ buffered → entry_good place_kinds a (placed a k mask default) ≡ true
unfolding entry_good place_rule with_fixed_bytes
good_beyond a k mask default h l =
    rw (
      beyond_table place_kinds a h,
      ne_eqb a scratch_place (λ e. omega arith),
      ne_eqb a vendor_low_place (λ e. omega arith),
      ne_eqb a vendor_high_place (λ e. omega arith),
    )
    (good_free k mask default l)

pub mended_good : (a : ℕ) (e : Entry) → entry_good place_kinds a (mended_at a e) ≡ true
unfolding mended_at mended_kind
mended_good a e = go (ltb a places) refl
  where
    k : ℕ
    k = cond (leb e.kind buffered) e.kind blank

    few : k ≤ buffered
    few = each (λ (x : ℕ). x ≤ buffered) (leb e.kind buffered) (λ t. leb-true e.kind buffered t) (λ t. omega arith)

    go : (b : Bool) → ltb a places ≡ b → entry_good place_kinds a (mended_at a e) ≡ true
    go true t =
        below (λ (x : ℕ). entry_good place_kinds x (placed x k e.mask e.default)) places (good_below k e.mask e.default few) a (ltb-true a places t)
    go false t = good_beyond a k e.mask e.default (ltb-false a places t) few

-- ---- a good entry is left as it is

known : (k mask default : ℕ) → kind_rule (entry k mask default) ≡ true → k ≤ control
unfolding kind_rule
known zero mask default h = omega arith
known (suc zero) mask default h = omega arith
known (suc (suc zero)) mask default h = omega arith
known (suc (suc (suc zero))) mask default h = omega arith
known (suc (suc (suc (suc zero)))) mask default h = omega arith
known (suc (suc (suc (suc (suc j))))) mask default h =
    let k = suc (suc (suc (suc (suc j)))) in
    absurd (false≢true
    (rw (
      ne_eqb k 0 (λ e. omega arith),
      ne_eqb k 1 (λ e. omega arith),
      ne_eqb k 2 (λ e. omega arith),
      ne_eqb k 3 (λ e. omega arith),
      ne_eqb k 4 (λ e. omega arith),
    ) at h))

kind_kept : (a : ℕ) (e : Entry) → kind_rule e ≡ true → place_rule place_kinds a e.kind ≡ true → mended_kind a e.kind ≡ e.kind
unfolding mended_kind place_rule
kind_kept a e h r = go (eqb (place_kind a) free) refl
  where
    go : (b : Bool) → eqb (place_kind a) free ≡ b → cond b (cond (leb e.kind buffered) e.kind blank) (place_kind a) ≡ e.kind
    go true t =
        let other : e.kind ≡ control → ⊥ = eqb-false e.kind control (not-true (eqb e.kind control) (rw t at r)) in
        let most : e.kind ≤ control = known e.kind e.mask e.default h in
        rw (le-leb e.kind buffered (omega arith))
    go false t = sym (eqb-true e.kind (place_kind a) (rw t at r))

both_zero : (k mask default : ℕ) → (eqb mask 0 && eqb default 0) ≡ true → entry k 0 0 ≡ entry k mask default
both_zero k mask default h =
    let x = eqb-true mask 0 (and_left (eqb mask 0) (eqb default 0) h) in
    let y = eqb-true default 0 (and_right (eqb mask 0) (eqb default 0) h) in
    rw (x, y)

clear_kept : (k mask default : ℕ) → kind_rule (entry k mask default) ≡ true → cleared (entry k mask default) ≡ entry k mask default
unfolding kind_rule cleared
clear_kept zero mask default h = both_zero 0 mask default h
clear_kept (suc zero) mask default h = let z = eqb-true mask 0 h in rw z
clear_kept (suc (suc zero)) mask default h = refl
clear_kept (suc (suc (suc zero))) mask default h = refl
clear_kept (suc (suc (suc (suc zero)))) mask default h = both_zero 4 mask default h
clear_kept (suc (suc (suc (suc (suc j))))) mask default h =
    let most = known (suc (suc (suc (suc (suc j))))) mask default h in absurd (omega arith)

-- the further rules on single bytes, as they bear on one address
pub record Further (a : ℕ) (e : Entry) : Type 0 where
  pub scratch : a ≡ scratch_place → e.mask ≡ scratch_mask
  pub low_vendor : a ≡ vendor_low_place → e.default ≡ vendor_low
  pub high_vendor : a ≡ vendor_high_place → e.default ≡ vendor_high

fixed_kept : (a : ℕ) (e : Entry) → Further a e → with_fixed_bytes a e ≡ e
unfolding with_fixed_bytes
fixed_kept a e f =
    each (λ (x : Entry). x ≡ e) (eqb a scratch_place) (λ t. ap (λ (b : ℕ). entry e.kind b e.default) (sym (f.scratch (eqb-true a scratch_place t))))
    (λ s. each (λ (x : Entry). x ≡ e) (eqb a vendor_low_place)
    (λ t. ap (λ (b : ℕ). entry e.kind e.mask b) (sym (f.low_vendor (eqb-true a vendor_low_place t))))
    (λ s. each (λ (x : Entry). x ≡ e) (eqb a vendor_high_place)
    (λ t. ap (λ (b : ℕ). entry e.kind e.mask b) (sym (f.high_vendor (eqb-true a vendor_high_place t))))
    (λ s. refl)))

pub good_kept : (a : ℕ) (e : Entry) → entry_good place_kinds a e ≡ true → Further a e → mended_at a e ≡ e
unfolding mended_at entry_good
good_kept a e g f =
    let rule = and_left (kind_rule e) (place_rule place_kinds a e.kind) g in
    let place = and_right (kind_rule e) (place_rule place_kinds a e.kind) g in
    ap (λ (k : ℕ). with_fixed_bytes a (cleared (entry k e.mask e.default))) (kind_kept a e rule place)
    ∙ ap (with_fixed_bytes a) (clear_kept e.kind e.mask e.default rule)
    ∙ fixed_kept a e f
