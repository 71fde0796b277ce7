-- A mended map is good: its head is as it was, each entry is a mended one, and the bytes that document 01 fixes are put.
use mathlib.Core.Path.{◌≡◌, refl, ap, ◌∙◌}
use mathlib.Core.Bool.{Bool, true, false, cond}
use mathlib.Core.List.{List}
use Prim.Native.Nat.{ℕ, zero, suc, ◌+◌, ◌*◌, ◌≤◌, ◌<◌}
use native.Mathlib.Omega.{arith}
use native.Mathlib.Nat.{add-zero, zero-add}
use lib.ListN.{length, take, length-append}
use lib.Dec.{eqb}
use Rattle.base_bits.specs.Bytes.{byte_at}
use Rattle.base_bits.specs.Tests.{every}
use Rattle.map_format.specs.Format.{version_of, count_of, head_size, flags_of, head_of, entry_at, register_at}
use Rattle.map_format.proofs.Laws.{head_bounds}
use Rattle.base_chip.specs.declared.Chip.TheVariants.{Newer}
use Rattle.map_test.specs.MapTest.{form_tests, Formed, place_kinds, entries_good, product_good, further_tests, map_number}
use Rattle.map_test.specs.MapTest.{product_low_place, product_high_place, vendor_low_place, vendor_high_place, scratch_place}
use Rattle.map_mend.specs.Entry.{entry, mended_kind, cleared, with_fixed_bytes, mended_at}
use Rattle.map_mend.specs.Mend.{mended_from, mended_map}
use Rattle.map_mend.proofs.Behind.{behind, entry_in, head_size_lem, head_byte, same_version, same_head, same_count, entry_behind}
use Rattle.map_mend.proofs.MendedEntry.{mended_good}
use Rattle.map_mend.proofs.Pass.{length_mended}

-- entry i of those mended from b on
mended_entry : (m : List ℕ) (b k i : ℕ) → i < k → entry_in (mended_from m b k) i ≡ mended_at (b + i) (register_at m (b + i))
unfolding mended_from
mended_entry m b zero i h = absurd (omega arith)
mended_entry m b (suc k) zero h = rw (add-zero b)
mended_entry m b (suc k) (suc i) h =
    let e0 : 3 * suc i ≡ suc (suc (suc (3 * i))) = omega arith in
    let e1 : 3 * suc i + 1 ≡ suc (suc (suc (3 * i + 1))) = omega arith in
    let e2 : 3 * suc i + 2 ≡ suc (suc (suc (3 * i + 2))) = omega arith in
    let s : b + 1 + i ≡ b + suc i = omega arith in
    (λ t. entry (byte_at (mended_from m b (suc k)) (e0 t)) (byte_at (mended_from m b (suc k)) (e1 t)) (byte_at (mended_from m b (suc k)) (e2 t)))
    ∙ mended_entry m (b + 1) k i (omega arith)
    ∙ ap (λ (a : ℕ). mended_at a (register_at m a)) s

module _ (m : List ℕ) (f : Formed m) where
  pub count_kept : count_of (mended_map m) ≡ count_of m
  unfolding mended_map
  count_kept = same_count m f (mended_from m 0 (count_of m))

  -- each register of the mended map is the mended one
  pub mended_register : (a : ℕ) → a < count_of m → register_at (mended_map m) a ≡ mended_at a (register_at m a)
  unfolding mended_map
  mended_register a h =
      let entries = mended_from m 0 (count_of m) in
      ap (λ (n : ℕ). entry_at (behind m entries) n a) count_kept
      ∙ entry_behind m f entries (count_of m) a h
      ∙ mended_entry m 0 (count_of m) a h
      ∙ ap (λ (x : ℕ). mended_at x (register_at m x)) (zero-add a)

  length_kept : length (mended_map m) ≡ length m
  unfolding mended_map
  length_kept =
      omega (arith, length-append (take (head_of m) m) (mended_from m 0 (count_of m)), head_size_lem m f, length_mended m 0 (count_of m), f.whole)

  -- version 2 keeps its flag byte
  flags_kept : flags_of (mended_map m) ≡ flags_of m
  unfolding mended_map head_of
  flags_kept = rw (same_version m f entries) (go (eqb (version_of m) 2) refl)
    where
      entries : List ℕ
      entries = mended_from m 0 (count_of m)

      go : (b : Bool) → eqb (version_of m) 2 ≡ b → cond b (byte_at (behind m entries) head_size) 0 ≡ cond b (byte_at m head_size) 0
      go true t = let six : head_of m ≡ 6 = rw t in head_byte m f entries head_size (omega arith)
      go false t = refl

  form_kept : every (form_tests (mended_map m)) ≡ every (form_tests m)
  unfolding mended_map
  form_kept =
      let entries = mended_from m 0 (count_of m) in
      rw (
        flags_kept,
        length_kept,
        count_kept,
        same_head m f entries,
        head_byte m f entries 0 (omega (arith, head_bounds m)),
        head_byte m f entries 1 (omega (arith, head_bounds m)),
        same_version m f entries,
      )

  entries_good_lem : (a k : ℕ) → a + k ≤ count_of m → entries_good place_kinds (mended_map m) a k ≡ true
  unfolding entries_good
  entries_good_lem a zero h = refl
  entries_good_lem a (suc k) h =
      rw (mended_register a (omega arith), mended_good a (register_at m a)) (entries_good_lem (a + 1) k (omega arith))

  further_good : product_good m ≡ true → every (further_tests Newer (mended_map m)) ≡ true
  unfolding every mended_at mended_kind cleared with_fixed_bytes
  further_good p =
      rw (
        mended_register vendor_low_place (omega (arith, f.least)),
        mended_register vendor_high_place (omega (arith, f.least)),
        mended_register product_high_place (omega (arith, f.least)),
        mended_register product_low_place (omega (arith, f.least)),
        mended_register scratch_place (omega (arith, f.least)),
        p,
      )

  pub mended_accepted : every (form_tests m) ≡ true → product_good m ≡ true → map_number Newer (mended_map m) ≡ 0
  unfolding map_number
  mended_accepted t p = rw (form_kept, t, further_good p, count_kept, entries_good_lem 0 (count_of m) (omega arith))
