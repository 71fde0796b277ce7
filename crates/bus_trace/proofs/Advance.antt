-- Samples without an event on a sound port: SCLK moves, bits are taken, and CSB stays as it is.
use mathlib.Core.Path.{◌≡◌, refl, sym, ◌∙◌, subst}
use mathlib.Core.Bool.{Bool, true, false, cond, not, ◌&&◌, false≢true}
use mathlib.Core.List.{List}
use Prim.Native.Nat.{ℕ, zero, suc, ◌+◌, ◌-◌, ◌*◌, ◌/◌, ◌%◌, ◌^◌, ◌<◌, ◌≤◌}
use native.Mathlib.Omega.{arith}
use native.Mathlib.Nat.{add-zero}
use lib.Dec.{eqb, ltb}
use lib.ListN.{length, get_or}
use borrow.Author.Tests.{eq-eqb, ne_eqb, eqb-true, lt-ltb}
use Rattle.base_bits.specs.Bits.{bit_at, shifted_in}
use Rattle.base_bits.proofs.Cases.{no, each}
use Rattle.base_chip.specs.declared.Chip.{Chip}
use Rattle.bus_settings.specs.Settings.{counting}
use Rattle.bus_session.specs.declared.Phase.{Phase}
use Rattle.bus_session.specs.declared.Phase.TheVariants.{Rest, Instruction, Data}
use Rattle.bus_session.specs.declared.Port.{Port}
use Rattle.bus_session.specs.declared.Event.{Event}
use Rattle.bus_session.specs.declared.Event.TheVariants.{Nothing}
use Rattle.bus_session.specs.State.{at_levels, with_bits, with_levels, is_data, sound_port}
use Rattle.bus_session.specs.Step.{csb_of, sclk_of, csb_falls, csb_rises, frame_starts, frame_ends, takes_bit, value_with, in_use_on, with_instruction_bit, with_data_bit, step_of}
use Rattle.bus_session.specs.Event.{bit_event, event_of}
use Rattle.bus_session.proofs.Form.{Form, rests, instructs, has_data, stalls, passes, sound_form}
use Rattle.bus_session.proofs.Laws.{sound_step, fit_sound, few_bits}
use Rattle.bus_trace.specs.declared.scan.Progress.{Progress}
use Rattle.bus_words.specs.Words.{High}
use Rattle.bus_words.specs.Lanes.{clock_of}
use Rattle.bus_trace.specs.Path.{Quiet, still, more}
use Rattle.bus_trace.specs.Progress.{with_progress, last_of, source_line, SoundProgress, Reached}
use Rattle.bus_trace.specs.Scan.{progress, level_after}

-- the levels of a sample, by its two lowest bits
pub csb_low : (x : ℕ) → x % 2 ≡ 0 → csb_of x ≡ false
unfolding bit_at
csb_low x e = ne_eqb (x / 2 ^ 0 % 2) 1 (λ (z : x / 2 ^ 0 % 2 ≡ 1). omega arith)

pub csb_high : (x : ℕ) → x % 2 ≡ 1 → csb_of x ≡ true
unfolding bit_at
csb_high x e = eq-eqb (x / 2 ^ 0 % 2) 1 (omega arith)

same_test : (a b c d : ℕ) → (a ≡ b → c ≡ d) → (c ≡ d → a ≡ b) → eqb a b ≡ eqb c d
same_test a b c d f g = go (eqb c d) refl
  where
    go : (t : Bool) → eqb c d ≡ t → eqb a b ≡ t
    go true e = eq-eqb a b (g (eqb-true c d e))
    go false e = ne_eqb a b (λ (z : a ≡ b). false≢true (sym e ∙ eq-eqb c d (f z)))

sclk_level : (x l : ℕ) → x % 4 ≡ l + x % 2 → sclk_of x ≡ eqb l 2
unfolding bit_at
sclk_level x l e =
    let h : x % 4 ≡ 2 * (x / 2 ^ 1 % 2) + x % 2 = omega arith in
    let d : l ≡ 2 * (x / 2 ^ 1 % 2) = omega (arith, h, e) in
    same_test (x / 2 ^ 1 % 2) 1 l 2 (λ (z : x / 2 ^ 1 % 2 ≡ 1). omega (arith, d)) (λ (z : l ≡ 2). omega (arith, d))

pub on_line : (b : Bool) (x : ℕ) → cond b (bit_at x 3) (bit_at x 2) ≡ bit_at x (cond b 3 2)
on_line true x = refl
on_line false x = refl

not_whole : (p : Phase) (n : ℕ) (e : Event) → n < last_of p → cond (is_data p) (cond (ltb n 7) Nothing e) Nothing ≡ Nothing
not_whole Rest n e h = refl
not_whole Instruction n e h = refl
not_whole Data n e h = rw (lt-ltb n 7 h)

-- SCLK before and now, as 0 or 2
no_rise : (l n : ℕ) → l % 2 ≡ 0 → l < 4 → n ≤ l → (not (eqb l 2) && eqb n 2) ≡ false
no_rise l n e h k = at (eqb l 2) refl
  where
    at : (t : Bool) → eqb l 2 ≡ t → (not t && eqb n 2) ≡ false
    at true q = refl
    at false q = ne_eqb n 2 (λ (z : n ≡ 2). false≢true (sym q ∙ eq-eqb l 2 (omega arith)))

rise : (l n : ℕ) → n % 2 ≡ 0 → n < 4 → l < n → l % 2 ≡ 0 → (not (eqb l 2) && eqb n 2) ≡ true
rise l n e h k d =
    let z : l ≡ 0 = omega arith in
    let t : n ≡ 2 = omega arith in
    rw (z, t)

level_lt : (b : Bool) → cond b 2 0 < 4
level_lt true = omega arith
level_lt false = omega arith

level_even : (b : Bool) → cond b 2 0 % 2 ≡ 0
level_even true = refl
level_even false = refl

level_is : (b : Bool) → eqb (cond b 2 0) 2 ≡ b
level_is true = refl
level_is false = refl

pub even_level : (x : ℕ) → (x % 4 % 2 ≡ 1 → ⊥) → x % 2 ≡ 0
even_level x f = omega (arith, f)

module _ (c : Chip) where
  -- CSB stays and no bit is taken: only the last levels change
  stays : (s : Port) (x : ℕ) → csb_falls s x ≡ false → takes_bit s x ≡ false → csb_rises s x ≡ false
      → (step_of c s x ≡ with_levels s x) × (event_of c s x ≡ Nothing)
  unfolding step_of event_of
  stays s x f t r =
      let f' : frame_starts s x ≡ false = rw f in
      let r' : frame_ends s x ≡ false = rw r in
      (sym (no _ f' (no _ t (no _ r' refl))), sym (no _ t (no _ r' refl)))

  -- one bit more, which is not the last of its instruction or byte
  abbrev bit_taken : Port → ℕ → Port
  bit_taken s x = with_bits (at_levels s false true) (s.bits + 1) (value_with s (bit_at x (source_line c s)))

  takes : {s : Port} → Form c s → (x : ℕ) → takes_bit s x ≡ true → s.bits < last_of s.phase → step_of c s x ≡ bit_taken s x
  unfolding step_of with_instruction_bit with_data_bit
  takes (rests k t) x b h = absurd (omega arith)
  takes (instructs k n v t u g f) x b h = rw (b, lt-ltb n 15 h)
  takes (has_data k n v a r l t u g f d o) x b h = rw (b, lt-ltb n 7 h, on_line (r && (counting c u).sdo_active) x)
  takes (stalls k a r l t u f e d) x b h = absurd (false≢true b)
  takes (passes k t e) x b h = absurd (omega arith)

  takes_nothing : (s : Port) (x : ℕ) → takes_bit s x ≡ true → s.bits < last_of s.phase → event_of c s x ≡ Nothing
  unfolding event_of bit_event
  takes_nothing s x b h = rw b (not_whole s.phase s.bits _ h)

  -- CSB low before and now
  module _ (s : Port) (p : Progress) (x : ℕ) (low : s.csb ≡ false) (e : x % 2 ≡ 0) (good : SoundProgress c s p) where
    bit_test : takes_bit (with_progress s p) x ≡ (not (eqb p.level 2) && eqb (x % 4) 2)
    bit_test = rw (low, csb_low x e, sclk_level x (x % 4) (omega arith))

    pub bit_taken_lem : p.level < x % 4 → takes_bit (with_progress s p) x ≡ true
    bit_taken_lem h = bit_test ∙ rise p.level (x % 4) (omega arith) (omega arith) h good.even

    idle_step : x % 4 ≤ p.level → (step_of c (with_progress s p) x ≡ with_progress s (progress (x % 4) p.bits p.value (p.at + 1)))
        × (event_of c (with_progress s p) x ≡ Nothing)
    idle_step h =
        let b = bit_test ∙ no_rise p.level (x % 4) good.even good.level h in
        let r = stays (with_progress s p) x (rw low) b (rw (low, csb_low x e)) in
        (r.0 ∙ rw (low, csb_low x e, sclk_level x (x % 4) (omega arith)), r.1)

    bit_step : p.level < x % 4 → p.bits < last_of s.phase
        → (step_of c (with_progress s p) x ≡ with_progress s
        (progress (x % 4) (p.bits + 1) (shifted_in s.in_use.lsb_first p.value p.bits (bit_at x (source_line c s))) (p.at + 1)))
        × (event_of c (with_progress s p) x ≡ Nothing)
    bit_step h k =
        let b = bit_taken_lem h in
        let t : x % 4 ≡ 2 = omega (arith, good.even) in
        (takes (sound_form c (with_progress s p) good.sound) x b k ∙ rw (low, t), takes_nothing (with_progress s p) x b k)

  -- a step that gives a progress and no event
  stepped : {xs : List ℕ} {s : Port} {i : ℕ} {p : Progress} (q : Progress) → Reached c xs s i p → p.at < length xs → q.at ≡ p.at + 1
      → q.level % 2 ≡ 0 → q.level < 4 → (step_of c (with_progress s p) (get_or xs p.at 0) ≡ with_progress s q)
      × (event_of c (with_progress s p) (get_or xs p.at 0) ≡ Nothing)
      → Reached c xs s i q
  stepped {xs} {s} {i} {p} q r h a ev lv e = record {
    ahead = omega (arith, r.ahead);
    within = omega arith;
    good = record { even = ev; level = lv; sound = rw e.0 at (sound_step c (with_progress s p) (get_or xs p.at 0) r.good.sound) };
    path = rw (e.0, sym a) at (more r.path h e.1);
  }

  -- the progress of a port itself
  pub own : {xs : List ℕ} {s : Port} (p : Progress) → sound_port c s ≡ true → p.at ≤ length xs
      → p.level ≡ cond s.sclk 2 0 → p.bits ≡ s.bits → p.value ≡ s.value → Reached c xs s p.at p
  own {xs} {s} p f h el eb ev =
      let same : with_progress s p ≡ s = rw (el, eb, ev, level_is) in
      record {
        ahead = omega arith;
        within = h;
        good = record {
          even = rw el (level_even s.sclk);
          level = rw el (level_lt s.sclk);
          sound = subst (λ (t : Port). sound_port c t ≡ true) (sym same) f;
        };
        path = subst (λ (t : Port). Quiet c xs s p.at t p.at) (sym same) still;
      }

  module _ {xs : List ℕ} {s : Port} {i : ℕ} (low : s.csb ≡ false) where
    pub idle : {p : Progress} → Reached c xs s i p → p.at < length xs → get_or xs p.at 0 % 2 ≡ 0 → get_or xs p.at 0 % 4 ≤ p.level
        → Reached c xs s i (progress (get_or xs p.at 0 % 4) p.bits p.value (p.at + 1))
    idle {p} r h e k = stepped _ r h refl (omega arith) (omega arith) (idle_step s p (get_or xs p.at 0) low e r.good k)

    pub bit : {p : Progress} → Reached c xs s i p → p.at < length xs
        → get_or xs p.at 0 % 2 ≡ 0 → p.level < get_or xs p.at 0 % 4 → p.bits < last_of s.phase
        → Reached c xs s i (progress (get_or xs p.at 0 % 4) (p.bits + 1)
        (shifted_in s.in_use.lsb_first p.value p.bits (bit_at (get_or xs p.at 0) (source_line c s))) (p.at + 1))
    bit {p} r h e k b = stepped _ r h refl (omega arith) (omega arith) (bit_step s p (get_or xs p.at 0) low e r.good k b)

  -- CSB high before and now
  module _ (s : Port) (p : Progress) (x : ℕ) (up : s.csb ≡ true) (e : x % 2 ≡ 1) where
    high_step : (step_of c (with_progress s p) x ≡ with_progress s (progress (x % 4 - 1) p.bits p.value (p.at + 1)))
        × (event_of c (with_progress s p) x ≡ Nothing)
    high_step =
        let r = stays (with_progress s p) x (rw (up, csb_high x e)) (rw up) (rw up) in
        (r.0 ∙ rw (up, csb_high x e, sclk_level x (x % 4 - 1) (omega arith)), r.1)

  module _ {xs : List ℕ} {s : Port} {i : ℕ} (up : s.csb ≡ true) where
    high : {p : Progress} → Reached c xs s i p → p.at < length xs → get_or xs p.at 0 % 2 ≡ 1
        → Reached c xs s i (progress (get_or xs p.at 0 % 4 - 1) p.bits p.value (p.at + 1))
    high {p} r h e = stepped _ r h refl (omega arith) (omega arith) (high_step s p (get_or xs p.at 0) up e)

    -- samples with CSB high, at least one
    highs : (p : Progress) (n : ℕ) → Reached c xs s i p → ((k : ℕ) → k < suc n → get_or xs (p.at + k) 0 % 2 ≡ 1) → p.at + suc n ≤ length xs
        → Reached c xs s i (progress (get_or xs (p.at + n) 0 % 4 - 1) p.bits p.value (p.at + suc n))
    highs p zero r f h =
        let e = rw add-zero at (f 0 (omega arith)) in
        rw add-zero (high r (omega arith) e)
    highs p (suc n) r f h =
        let q = highs p n r (λ k g. f k (omega arith)) (omega arith) in
        let a : p.at + suc n + 1 ≡ p.at + suc (suc n) = omega arith in
        rw a at (high q (omega arith) (f (suc n) (omega arith)))

    pub past_high : (p : Progress) (j : ℕ) → Reached c xs s i p → High xs p.at j
        → Reached c xs s i (progress (level_after xs p.at p.level (j - p.at)) p.bits p.value j)
    unfolding level_after
    past_high p j r m = by (j - p.at) refl
      where
        by : (n : ℕ) → j - p.at ≡ n → Reached c xs s i (progress (level_after xs p.at p.level (j - p.at)) p.bits p.value j)
        by zero e =
            let a : p.at ≡ j = omega (arith, m.ahead) in
            rw (e, ← a) r
        by (suc n) e =
            let a : p.at + suc n ≡ j = omega (arith, m.ahead) in
            let up = highs p n r (λ k g. m.all k (omega (arith, e))) (omega (arith, a, m.within)) in
            let l : clock_of (get_or xs (p.at + n) 0) ≡ get_or xs (p.at + n) 0 % 4 - 1 = omega (arith, m.all n (omega (arith, e))) in
            rw (e, l, ← a) up

  pub line_lt : (s : Port) → source_line c s < 4
  line_lt s = each (λ (n : ℕ). n < 4) (is_data s.phase && s.read && (in_use_on c s).sdo_active) (λ e. omega arith) (λ e. omega arith)

  -- what a bit more asks
  pub room_for_bit : {s : Port} {p : Progress} → SoundProgress c s p → (p.bits < 16) × (p.value < 2 ^ p.bits)
  room_for_bit {s} {p} a =
      let f = fit_sound c (with_progress s p) a.sound in
      (few_bits s.phase p.bits f.unfinished, f.small)
