-- Document 02, Ask 7: the mark, the count and the search. What each leaves is one value; a refusal leaves the words as they were.
use Rattle.std.specs.Prelude.{ℕ, cond, List, length, eqb, leb}
use Rattle.base_bits.specs.Tests.{unless}
use Rattle.base_numbers.specs.Numbers.{done, bad_words}
use Rattle.reg_touched.specs.Touched.{touched_bits, cleared_words, trues, next_true}

-- Document 02, Ask 7: up to 128 words, as many as the largest map needs.
abbrev pub most_words : ℕ
most_words = 128

-- Document 02, Ask 7: number 16 for more words.
unfoldable pub words_number : List ℕ → ℕ
words_number ws = unless (leb (length ws) most_words) bad_words done

-- what a mark leaves: the number, and the words
pub record Marking : Type 0 where
  pub number : ℕ
  pub words : List ℕ

abbrev pub marking : ℕ → List ℕ → Marking
marking number words = record { number = number; words = words }

-- Document 02, Ask 7: a mark of lent words.
unfoldable pub mark_of : List ℕ → Marking
mark_of ws = cond (eqb (words_number ws) done) (marking done (cleared_words ws)) (marking (words_number ws) ws)

-- what a count answers: the number, and how many registers were touched
pub record TouchedCount : Type 0 where
  pub number : ℕ
  pub count : ℕ

abbrev pub touched_count : ℕ → ℕ → TouchedCount
touched_count number count = record { number = number; count = count }

-- Document 02, Ask 7: how many there are.
unfoldable pub touched_count_of : List ℕ → TouchedCount
touched_count_of ws = cond (eqb (words_number ws) done) (touched_count done (trues (touched_bits ws))) (touched_count (words_number ws) 0)

-- what a search answers: the number, and the address found
pub record Searching : Type 0 where
  pub number : ℕ
  pub address : ℕ

abbrev pub searching : ℕ → ℕ → Searching
searching number address = record { number = number; address = address }

-- Document 02, Ask 7: the next one from a given address on, or 64 times the number of words if none.
unfoldable pub search_of : List ℕ → ℕ → Searching
search_of ws a = cond (eqb (words_number ws) done) (searching done (next_true (touched_bits ws) a)) (searching (words_number ws) 0)
