-- The list: what one entry adds to it, what the rest adds, and how long it can be.
use mathlib.Core.Path.{◌≡◌, ap}
use mathlib.Core.Bool.{true, false, not}
use mathlib.Core.List.{List, [], ◌++◌}
use Prim.Native.Nat.{ℕ, zero, suc, ◌+◌, ◌-◌, ◌*◌, ◌≤◌, ◌<◌}
use native.Mathlib.Omega.{arith}
use lib.ListN.{length, length-append}
use borrow.Author.Tests.{not-true, not-false}
use Rattle.base_bits.specs.Bytes.{word_bytes}
use Rattle.base_bits.proofs.Cases.{each}
use Rattle.base_bits.proofs.Putting.{Splits}
use Rattle.map_format.specs.declared.Entry.{Entry}
use Rattle.map_format.specs.Format.{register_at}
use Rattle.map_mend.specs.Entry.{mended_at, same_entry}
use Rattle.map_mend.specs.Mend.{entry_bytes, listed_size, altered_at, altered_from}

module _ (a : ℕ) (e : Entry) where
  pub listed : not (same_entry (mended_at a e) e) ≡ true → altered_at a e ≡ word_bytes a ++ entry_bytes e
  unfolding altered_at
  listed h = rw (not-true (same_entry (mended_at a e) e) h)

  pub not_listed : not (same_entry (mended_at a e) e) ≡ false → altered_at a e ≡ []
  unfolding altered_at
  not_listed h = rw (not-false (same_entry (mended_at a e) e) h)

  listed_most : length (altered_at a e) ≤ listed_size
  unfolding altered_at
  listed_most = each (λ (l : List ℕ). length l ≤ listed_size) (same_entry (mended_at a e) e) (λ t. omega arith) (λ t. omega arith)

pub altered_most : (m : List ℕ) (a k : ℕ) → length (altered_from m a k) ≤ listed_size * k
unfolding altered_from
altered_most m a zero = omega arith
altered_most m a (suc k) =
    omega (arith, length-append (altered_at a (register_at m a)) (altered_from m (a + 1) k), listed_most a (register_at m a), altered_most m (a + 1) k)

-- of the entries from a on: the first, and the others
pub one_less : (m : List ℕ) (n a : ℕ) → a < n → Splits (altered_from m a (n - a)) (altered_at a (register_at m a)) (altered_from m (a + 1) (n - (a + 1)))
unfolding altered_from
one_less m n a h = let e : n - a ≡ suc (n - (a + 1)) = omega arith in record { split = rw e }

pub none_left : (m : List ℕ) (n a : ℕ) → n ≤ a → altered_from m a (n - a) ≡ []
unfolding altered_from
none_left m n a h = let e : n - a ≡ 0 = omega arith in rw e

-- In a loop over n entries that counts the bytes of their list: what is counted before a, with the list from a on, is the whole.
pub record ListCounting (m : List ℕ) (n counted a : ℕ) : Type 0 where
  pub within : a ≤ n
  pub so_far : counted + length (altered_from m a (n - a)) ≡ length (altered_from m 0 n)

module _ (m : List ℕ) (n counted a : ℕ) (c : ListCounting m n counted a) where
  pub again : (size : ℕ) → size ≡ length (altered_at a (register_at m a)) → a < n → ListCounting m n (counted + size) (a + 1)
  again size e h =
      let next = altered_at a (register_at m a) in
      let more = altered_from m (a + 1) (n - (a + 1)) in
      record {
        within = omega arith;
        so_far = omega (arith, c.so_far, ap length (one_less m n a h).split, length-append next more);
      }

  pub counted_most : counted ≤ listed_size * n
  counted_most = omega (arith, c.so_far, altered_most m 0 n)

  pub ended : n ≤ a → counted ≡ length (altered_from m 0 n)
  ended h = omega (arith, c.so_far, ap length (none_left m n a h))
