-- What is left from a turn on, where the chips before it have had theirs at this sample; and what one turn takes from it.
use mathlib.Core.Path.{◌≡◌, refl, sym, ap, ap₂, ◌∙◌}
use mathlib.Core.List.{List, [], ◌∷◌, ◌++◌, append_assoc, append-nil}
use Prim.Native.Nat.{ℕ, suc, ◌+◌, ◌<◌, ◌≤◌}
use native.Mathlib.Omega.{arith}
use native.Mathlib.Numerals.{add-one}
use lib.ListN.{length, get_or, take, drop, set, length-set}
use lib.Seq.{drop-cons, drop-length, drop-set-lt, take-suc-set, take_all, append_snoc}
use Rattle.several_chips.specs.Samples.{Sample}
use Rattle.several_chips.specs.State.{State, state_after, record_at, all_after, records_at, run_all, records_all}

-- the chips at the end
unfoldable pub resume : List ℕ → ℕ → List State → List Sample → List State
resume m i ss [] = ss
resume m i ss (x ∷ xs) = run_all m (take i ss ++ all_after m i (drop i ss) x) xs

-- the records that are to come
unfoldable pub resumed : List ℕ → ℕ → List State → List Sample → List (List ℕ)
resumed m i ss [] = []
resumed m i ss (x ∷ xs) = records_at m i (drop i ss) x ++ records_all m (take i ss ++ all_after m i (drop i ss) x) xs

-- at the first chip nothing of the sample is done
pub resume_first : (m : List ℕ) (ss : List State) (xs : List Sample) → resume m 0 ss xs ≡ run_all m ss xs
unfolding resume run_all
resume_first m ss [] = refl
resume_first m ss (x ∷ xs) = refl

pub resumed_first : (m : List ℕ) (ss : List State) (xs : List Sample) → resumed m 0 ss xs ≡ records_all m ss xs
unfolding resumed records_all
resumed_first m ss [] = refl
resumed_first m ss (x ∷ xs) = refl

-- one chip's turn
module _ (m : List ℕ) (i : ℕ) (ss : List State) (x : Sample) (d : State) (h : i < length ss) where
  abbrev s' : State
  s' = state_after m i (get_or ss i d) x

  abbrev ss' : List State
  ss' = set ss i s'

  rest_same : drop (i + 1) ss' ≡ drop (suc i) ss
  rest_same = ap (λ (k : ℕ). drop k ss') (add-one i) ∙ drop-set-lt (suc i) ss i s' (omega arith)

  states_on : take i ss ++ all_after m i (drop i ss) x ≡ take (i + 1) ss' ++ all_after m (i + 1) (drop (i + 1) ss') x
  unfolding all_after
  states_on =
      ap (λ (l : List State). take i ss ++ all_after m i l x) (drop-cons ss i d h)
      ∙ sym (append_snoc (take i ss) s' (all_after m (i + 1) (drop (suc i) ss) x))
      ∙ sym (ap₂ (λ (l k : List State). l ++ all_after m (i + 1) k x) (ap (λ (k : ℕ). take k ss') (add-one i) ∙ take-suc-set ss i s' h) rest_same)

  records_on : records_at m i (drop i ss) x ≡ record_at m i (get_or ss i d) x ++ records_at m (i + 1) (drop (i + 1) ss') x
  unfolding records_at
  records_on =
      ap (λ (l : List State). records_at m i l x) (drop-cons ss i d h)
      ∙ ap (λ (l : List State). record_at m i (get_or ss i d) x ++ records_at m (i + 1) l x) (sym rest_same)

  -- the last chip: the sample is done
  last_drop : length ss ≤ i + 1 → drop (i + 1) ss' ≡ []
  last_drop over =
      let e : suc i ≡ length ss = omega (arith, h, over) in
      rest_same ∙ ap (λ (k : ℕ). drop k ss) e ∙ drop-length ss

  last_states : length ss ≤ i + 1 → take (i + 1) ss' ++ all_after m (i + 1) (drop (i + 1) ss') x ≡ ss'
  unfolding all_after
  last_states over =
      ap₂ (λ (l k : List State). l ++ all_after m (i + 1) k x) (take_all (i + 1) ss' (omega (arith, length-set ss i s', over))) (last_drop over) ∙ append-nil ss'

  last_records : length ss ≤ i + 1 → records_at m (i + 1) (drop (i + 1) ss') x ≡ []
  unfolding records_at
  last_records over = ap (λ (l : List State). records_at m (i + 1) l x) (last_drop over)

  module _ (xs : List Sample) where
    pub resume_next : resume m i ss (x ∷ xs) ≡ resume m (i + 1) ss' (x ∷ xs)
    unfolding resume
    resume_next = ap (λ (l : List State). run_all m l xs) states_on

    pub resumed_next : resumed m i ss (x ∷ xs) ≡ record_at m i (get_or ss i d) x ++ resumed m (i + 1) ss' (x ∷ xs)
    unfolding resumed
    resumed_next =
        ap₂ (λ (a : List (List ℕ)) (l : List State). a ++ records_all m l xs) records_on states_on
        ∙ append_assoc (record_at m i (get_or ss i d) x) (records_at m (i + 1) (drop (i + 1) ss') x)
        (records_all m (take (i + 1) ss' ++ all_after m (i + 1) (drop (i + 1) ss') x) xs)

    pub resume_last : length ss ≤ i + 1 → resume m i ss (x ∷ xs) ≡ resume m 0 ss' xs
    unfolding resume
    resume_last over = ap (λ (l : List State). run_all m l xs) (states_on ∙ last_states over) ∙ sym (resume_first m ss' xs)

    pub resumed_last : length ss ≤ i + 1 → resumed m i ss (x ∷ xs) ≡ record_at m i (get_or ss i d) x ++ resumed m 0 ss' xs
    unfolding resumed
    resumed_last over =
        ap₂ (λ (a : List (List ℕ)) (l : List State). a ++ records_all m l xs) records_on (states_on ∙ last_states over)
        ∙ ap (λ (a : List (List ℕ)). (record_at m i (get_or ss i d) x ++ a) ++ records_all m ss' xs) (last_records over)
        ∙ ap₂ (λ (a b : List (List ℕ)). a ++ b) (append-nil (record_at m i (get_or ss i d) x)) (sym (resumed_first m ss' xs))
