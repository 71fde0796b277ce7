-- What is put at the start of a part of a buffer is put into the whole, from where the part starts.
use mathlib.Core.Path.{◌≡◌, sym, ◌∙◌}
use mathlib.Core.List.{List, [], ◌++◌, append-nil, append_assoc}
use Prim.Native.Nat.{ℕ, ◌+◌, ◌-◌, ◌≤◌}
use native.Mathlib.Omega.{arith}
use lib.ListN.{length, take, drop, length-drop, drop_of_length-le}
use lib.Seq.{drop-drop, sets-eq, take_all}
use Rattle.base_bits.specs.Buffer.{filled, Put}
use Rattle.base_bits.proofs.Putting.{put_filled}

-- a part to the end of the buffer
pub rest_part : (old : List ℕ) (n : ℕ) → take (length old - n) (drop n old) ≡ drop n old
rest_part old n = take_all (length old - n) (drop n old) (omega (arith, length-drop n old))

pub part_put :
    (xs old : List ℕ) (n count : ℕ) (part : List ℕ) → n ≤ length old → length xs ≤ length (drop n old)
    → Put (take (length old - n) (drop n old)) 0 xs count part
    → Put old n xs (n + count) (take n old ++ (part ++ drop (length old - n) (drop n old)))
part_put xs old n count part h fits p =
    let q : Put (drop n old) 0 xs count part = rw (rest_part old n) at p in
    let same : part ≡ filled xs (drop n old) = put_filled fits q in
    let none : drop (length old - n) (drop n old) ≡ [] = drop_of_length-le (drop n old) {i = length old - n} (omega (arith, length-drop n old)) in
    record {
      next_place = omega (arith, q.next_place);
      buffer = rw (none, append-nil part, same, drop-drop (length xs) n old)
          (sym (sets-eq xs old n (omega (arith, length-drop n old)) ∙ append_assoc (take n old) xs _));
    }
