-- A ready phrase as bytes: a record of 16 bytes for each step. docs/FORMAT.md shows it.
use Rattle.std.specs.Prelude.{ℕ, zero, suc, ◌+◌, ◌*◌, ◌/◌, ◌%◌, Bool, true, cond, ◌&&◌, List, [], ◌∷◌, ◌++◌, leb, eqb, length, take, drop}
use Rattle.steps.specs.Running.{starts, times}
use Rattle.steps.specs.declared.plan.Step.{Step}
use Rattle.records.specs.Bytes.{low_first, num_of}
use Rattle.records.specs.Words.{words, words_of, step_from}
use Rattle.records.specs.declared.words.Words.{Words}

-- "at most 24" records of 16 bytes: the room that any list of steps needs
abbrev pub ready_size : ℕ
ready_size = 384

-- kind and form share the first four bytes, kind in the lowest
abbrev pub bytes_of_words : Words → List ℕ
bytes_of_words w = low_first 4 (w.kind + 256 * w.form) ++ low_first 4 w.a ++ low_first 4 w.b ++ low_first 4 w.c

-- a record for each step, one behind the other
abbrev pub encode_of : List Step → List ℕ
encode_of [] = []
encode_of (s ∷ ss) = bytes_of_words (words_of s) ++ encode_of ss

-- the number at a place of four bytes
abbrev pub word_at : List ℕ → ℕ → ℕ
word_at l at = num_of (take 4 (drop at l))

-- the numbers of the record at a place
unfoldable pub words_at : List ℕ → ℕ → Words
words_at l at = words (word_at l at % 256) (word_at l at / 256) (word_at l (at + 4)) (word_at l (at + 8)) (word_at l (at + 12))

-- whether two records have the same numbers
abbrev pub same_words : Words → Words → Bool
same_words v w = eqb v.kind w.kind && (eqb v.form w.form && (eqb v.a w.a && (eqb v.b w.b && eqb v.c w.c)))

-- whether a step encodes to them
abbrev pub is_record : Words → Bool
is_record w = same_words (words_of (step_from w)) w

-- whether all of n records from a place on are records of steps
abbrev pub are_records : ℕ → List ℕ → ℕ → Bool
are_records zero l at = true
are_records (suc n) l at = is_record (words_at l at) && are_records n l (at + 16)

-- the steps of n records from a place on
abbrev pub steps_at : ℕ → List ℕ → ℕ → List Step
steps_at zero l at = []
steps_at (suc n) l at = step_from (words_at l at) ∷ steps_at n l (at + 16)

-- the list of a slice: one whose length is no multiple of 16, or with a record that no step encodes to, or of more than 24 records
-- stands for no list, and no list is 9
unfoldable pub decode_of : List ℕ → List Step
decode_of l =
    cond (leb (length l) ready_size && (eqb (length l % 16) 0 && are_records (length l / 16) l 0)) (steps_at (length l / 16) l 0) []

-- whether n records from a place on may stand behind a start: all are of steps, none of a start, and as many of time steps as are due
unfoldable pub may_follow : ℕ → ℕ → List ℕ → ℕ → Bool
may_follow due n l at = are_records n l at && (eqb (starts (steps_at n l at)) 0 && eqb (times (steps_at n l at)) due)
