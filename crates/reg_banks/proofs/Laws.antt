-- Laws of the banks: one register after a reset or a transfer, and their sizes.
use mathlib.Core.Path.{◌≡◌, refl, sym, ◌∙◌}
use mathlib.Core.Bool.{Bool, true, false, cond}
use mathlib.Core.List.{List}
use Prim.Native.Nat.{ℕ, ◌+◌, ◌<◌}
use native.Mathlib.Omega.{arith}
use borrow.Author.Tests.{ltb-true, ltb-false}
use lib.ListN.{length, get_or, replicate, length-replicate}
use lib.Dec.{eqb, ltb}
use Rattle.map_format.specs.Format.{count_of, register_at, blank, buffered}
use Rattle.map_format.proofs.Laws.{entry_beyond}
use Rattle.reg_banks.specs.Banks.{Banks, Mapped, defaults_from, default_banks, transfer_from, transferred}
use Rattle.reg_banks.proofs.Filling.{Rule, length_rest, get_d_rest_lem}

-- a register that is not blank has a byte in each bank
pub in_banks : {m : List ℕ} {b : Banks} {a k : ℕ} → Mapped m b → (register_at m a).kind ≡ k → (k ≡ blank → ⊥)
    → (a < length b.active) × (a < length b.buffer)
in_banks {m} {b} {a} h e n = go (ltb a (count_of m)) refl
  where
    go : (t : Bool) → ltb a (count_of m) ≡ t → (a < length b.active) × (a < length b.buffer)
    go true t = omega (arith, ltb-true a (count_of m) t)
    go false t = absurd (n (sym e ∙ entry_beyond m (count_of m) a (ltb-false a (count_of m) t)))

-- the defaults of as many registers as a list has bytes
abbrev pub defaults_over : List ℕ → ℕ → List ℕ → List ℕ
defaults_over m a l = defaults_from m a (length l)

pub defaults_rule : (m : List ℕ) → Rule (λ a x. (register_at m a).default) (defaults_over m)
unfolding defaults_from
defaults_rule m = record { none = λ a. refl; one = λ a x l. refl }

-- the active bytes after a transfer
abbrev pub transfer_over : List ℕ → List ℕ → ℕ → List ℕ → List ℕ
transfer_over m buffer a l = transfer_from m a l buffer

pub transfer_rule : (m buffer : List ℕ) → Rule (λ a x. cond (eqb (register_at m a).kind buffered) (get_or buffer a 0) x) (transfer_over m buffer)
unfolding transfer_from
transfer_rule m buffer = record { none = λ a. refl; one = λ a x l. refl }

length_defaults : (m : List ℕ) (k : ℕ) → length (defaults_from m 0 k) ≡ k
length_defaults m k = rw length-replicate at (length_rest (defaults_rule m) 0 (replicate k 0))

length_transfer : (m active buffer : List ℕ) → length (transfer_from m 0 active buffer) ≡ length active
length_transfer m active buffer = length_rest (transfer_rule m buffer) 0 active

pub get_d_transfer_lem : (m active buffer : List ℕ) (i : ℕ) → i < length active
    → get_or (transfer_from m 0 active buffer) i 0 ≡ cond (eqb (register_at m i).kind buffered) (get_or buffer i 0) (get_or active i 0)
get_d_transfer_lem m active buffer i h =
    let e : 0 + i ≡ i = omega arith in rw e at (get_d_rest_lem (transfer_rule m buffer) 0 active i h)

pub mapped_defaults : (m : List ℕ) → Mapped m (default_banks m)
unfolding default_banks
mapped_defaults m = record {
  active_size = length_defaults m (count_of m);
  buffer_size = length_defaults m (count_of m);
}

pub mapped_transfer : {m : List ℕ} {b : Banks} → Mapped m b → Mapped m (transferred m b)
unfolding transferred
mapped_transfer {m} {b} h = record {
  active_size = length_transfer m b.active b.buffer ∙ h.active_size;
  buffer_size = h.buffer_size;
}
