-- Results that a definition gives by tests: one step for each test on the way, and the parts of a list of tests.
use mathlib.Core.Path.{◌≡◌, refl, sym, ◌∙◌}
use mathlib.Core.Bool.{Bool, true, false, cond, ◌&&◌, ◌||◌, false≢true, true≢false, and_assoc, and-true}
use mathlib.Core.List.{List, [], ◌∷◌}
use mathlib.Core.Logic.{◌⊎◌, inl, inr}
use Rattle.base_bits.specs.Tests.{every}

-- the test holds
pub yes {ℓ} : {A : Type ℓ} {b : Bool} {r x : A} (y : A) → b ≡ true → r ≡ x → r ≡ cond b x y
yes y t e = rw t e

-- the test fails
pub no {ℓ} : {A : Type ℓ} {b : Bool} {r y : A} (x : A) → b ≡ false → r ≡ y → r ≡ cond b x y
no x t e = rw t e

-- what holds of each of two values holds of the one that a test picks
pub each {ℓ} : {A : Type ℓ} (P : A → Type 0) (b : Bool) {x y : A} → (b ≡ true → P x) → (b ≡ false → P y) → P (cond b x y)
each P true f g = f refl
each P false f g = g refl

pub and_left : (a b : Bool) → (a && b) ≡ true → a ≡ true
and_left true b h = refl
and_left false b h = h

pub and_right : (a b : Bool) → (a && b) ≡ true → b ≡ true
and_right true b h = h
and_right false b h = absurd (false≢true h)

pub or_left : (a b : Bool) → (a || b) ≡ false → a ≡ false
or_left true b h = h
or_left false b h = refl

pub or_right : (a b : Bool) → (a || b) ≡ false → b ≡ false
or_right true b h = absurd (true≢false h)
or_right false b h = h

pub or_cases : (a b : Bool) → (a || b) ≡ true → (a ≡ true) ⊎ (b ≡ true)
or_cases true b h = inl refl
or_cases false b h = inr h

-- each test of a list, as a product
abbrev pub AllTrue : List Bool → Type 0
AllTrue [] = Unit {0}
AllTrue (t ∷ ts) = (t ≡ true) × AllTrue ts

pub every_true : (ts : List Bool) → every ts ≡ true → AllTrue ts
unfolding every
every_true [] h = tt
every_true (t ∷ ts) h = (and_left t (every ts) h, every_true ts (and_right t (every ts) h))

-- tests that code joins by `&`, from the left
abbrev joined_tests : Bool → List Bool → Bool
joined_tests t [] = t
joined_tests t (u ∷ us) = joined_tests (t && u) us

pub joined_every : (t : Bool) (us : List Bool) → joined_tests t us ≡ (t && every us)
unfolding every
joined_every t [] = sym (and-true t)
joined_every t (u ∷ us) = joined_every (t && u) us ∙ and_assoc t u (every us)
