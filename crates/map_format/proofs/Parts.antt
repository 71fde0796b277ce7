-- Bytes that are copied over a part of a buffer are put at the part's start.
use mathlib.Core.Path.{◌≡◌, sym, ◌∙◌}
use mathlib.Core.List.{List, ◌++◌}
use Prim.Native.Nat.{ℕ, ◌+◌, ◌-◌, ◌≤◌}
use native.Mathlib.Omega.{arith}
use lib.ListN.{length, take, drop}
use lib.Seq.{sets-eq, drop-drop}
use borrow.Rule.Slice.PartMut.{put_mid}
use Rattle.std.proofs.Common.{append_assoc}
use Rattle.base_bits.specs.Buffer.{Put}
use Rattle.base_bits.proofs.Buffer.{sets_filled}

pub put_part :
    {old new xs : List ℕ} {at end : ℕ} → new ≡ xs → at + length xs ≤ length old → end ≡ at + length xs
    → Put old at xs end (put_mid at (end - at) old new)
put_part {old} {xs = xs} {at} {end} copied room e =
    let behind : at + (end - at) ≡ at + length xs = omega (arith, e) in
    record {
      next_place = e;
      buffer = rw (copied, drop-drop, behind) (sym (append_assoc (take at old) xs _)) ∙ sym (sets-eq xs old at room);
    }

-- the same at the start of a buffer
pub put_start : {old new xs : List ℕ} {end : ℕ} → new ≡ xs → length xs ≤ length old → end ≡ length xs → Put old 0 xs end (new ++ drop end old)
put_start {old} {xs = xs} copied room e = record { next_place = omega (arith, e); buffer = rw (copied, e) (sym (sets_filled xs old room)) }
