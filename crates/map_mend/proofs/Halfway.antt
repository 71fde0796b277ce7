-- The loop that mends: before an address the entries are mended and listed, and from it on the map is as it was.
use mathlib.Core.Path.{◌≡◌, ap, ◌∙◌}
use mathlib.Core.List.{List}
use Prim.Native.Nat.{ℕ, ◌+◌, ◌-◌, ◌≤◌, ◌<◌}
use native.Mathlib.Omega.{arith}
use lib.ListN.{length}
use lib.Seq.{sets}
use Rattle.base_bits.specs.Buffer.{Put}
use Rattle.base_bits.proofs.Putting as putting
use Rattle.base_bits.proofs.Putting.{Putting, further, next_fits}
use Rattle.map_format.specs.declared.Entry.{Entry}
use Rattle.map_format.specs.Format.{count_of, entry_start, entry_at, register_at}
use Rattle.map_test.specs.MapTest.{Formed}
use Rattle.map_mend.specs.Entry.{mended_at}
use Rattle.map_mend.specs.Mend.{entry_bytes, altered_at, altered_from, altered_of, MendedEntries}
use Rattle.map_mend.proofs.Listed.{one_less, none_left}
use Rattle.map_mend.proofs.Pass as pass
use Rattle.map_mend.proofs.Pass.{Passing, start_same, size_same, entry_same}

pub record Halfway (m old map list : List ℕ) (n a : ℕ) : Type 0 where
  pub within : a ≤ count_of m
  pub passing : Passing m map a
  pub listing : Putting old 0 (altered_of m) (altered_from m a (count_of m - a)) n list

module _ (m old : List ℕ) (f : Formed m) where
  pub halfway_begun : length (altered_of m) ≤ length old → Halfway m old m old 0 0
  halfway_begun fits =
      let e : count_of m - 0 ≡ count_of m = omega arith in
      record { within = omega arith; passing = pass.passing_begun m f; listing = rw e (putting.putting_begun old 0 (altered_of m) (omega arith)) }

  module _ (map list : List ℕ) (n a : ℕ) (h : Halfway m old map list n a) where
    pub same_size : length map ≡ length m
    same_size = size_same m f map a h.passing h.within

    pub old_entry : (k : ℕ) → k ≡ count_of m → a < count_of m → entry_at map k a ≡ register_at m a
    old_entry k e l = ap (λ (x : ℕ). entry_at map x a) e ∙ entry_same m f map a h.passing l

    -- the list has room for the entry, and the map the entry's place
    pub list_room : a < count_of m → n + length (altered_at a (register_at m a)) ≤ length list
    list_room l = next_fits h.listing (one_less m (count_of m) a l)

    pub map_room : a < count_of m → entry_start map (a + 1) ≤ length map
    map_room l = omega (arith, start_same m f map a h.passing (a + 1), same_size, f.whole)

    pub again :
        (n' : ℕ) (map' list' : List ℕ) (new : Entry) → a < count_of m → new ≡ mended_at a (register_at m a)
        → Put list n (altered_at a (register_at m a)) n' list' → map' ≡ sets map (entry_start map a) (entry_bytes new)
        → Halfway m old map' list' n' (a + 1)
    again n' map' list' new l e p q = record {
      within = omega arith;
      passing = rw (q, e) (pass.again m f map a h.passing l);
      listing = further h.listing (one_less m (count_of m) a l) p;
    }

    pub ended : count_of m ≤ a → MendedEntries m old n map list
    ended l = record {
      map_after = pass.ended m f map a h.passing (omega (arith, h.within));
      listed = putting.ended h.listing (none_left m (count_of m) a l);
    }
