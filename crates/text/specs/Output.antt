-- What the program `fuzzy` writes: "a first line with now, then one phrase a line". Assumes nothing.
use Rattle.std.specs.Prelude.{ℕ, ◌-◌, ◌*◌, ◌≤◌, ◌≡◌, List, [], ◌∷◌, ◌++◌, length, take, drop, Option, Some, None}
use Rattle.lexer.specs.Keywords.{words_in}
use Rattle.calendar.specs.declared.moments.Moment.{Moment}
use Rattle.text.specs.Answers.{First, answer_of}
use Rattle.text.specs.Nows.{now_of}
use Rattle.text.specs.Lines.{feed, whole_of, rest_of, last_of, lines_of}
use Rattle.text.specs.Texts.{text_of}
use Rattle.text.specs.declared.stream.Passed.{Passed}
use Rattle.text.specs.declared.stream.Piece.{Piece}

-- the answer to a phrase at a now in the first reading, on a line of its own
abbrev pub answer_line : Moment → List ℕ → List ℕ
answer_line n p = text_of (answer_of First (words_in First) p n) ++ (feed ∷ [])

-- an answer for each phrase
abbrev pub answer_lines : Moment → List (List ℕ) → List ℕ
answer_lines n [] = []
answer_lines n (p ∷ ps) = answer_line n p ++ answer_lines n ps

-- "a first line with now, then one phrase a line"; no line, no output
abbrev pub output_of : List (List ℕ) → List ℕ
output_of [] = []
output_of (first ∷ phrases) = answer_lines (now_of first) phrases

-- the whole output for the whole input
unfoldable pub output : List ℕ → List ℕ
output s = output_of (lines_of s)

-- what a line adds to the output: nothing if it is the first
abbrev pub line_text : Option Moment → List ℕ → List ℕ
line_text None l = []
line_text (Some n) l = answer_line n l

-- what is known behind a line
abbrev pub after_line : Option Moment → List ℕ → Option Moment
after_line None l = Some (now_of l)
after_line (Some n) l = Some n

-- what lines add to the output
abbrev pub lines_text : Option Moment → List (List ℕ) → List ℕ
lines_text k [] = []
lines_text k (l ∷ ls) = line_text k l ++ lines_text (after_line k l) ls

-- what is known behind them
abbrev pub after_lines : Option Moment → List (List ℕ) → Option Moment
after_lines k [] = k
after_lines k (l ∷ ls) = after_lines (after_line k l) ls

-- what the lines that a line feed ends add to the output
abbrev pub passed_text : Option Moment → List ℕ → List ℕ
passed_text k s = lines_text k (whole_of s)

-- what is known behind them, how many bytes of s they are, and how many bytes they add
unfoldable pub passed : Option Moment → List ℕ → Passed
passed k s = record { known = after_lines k (whole_of s); at = length s - length (rest_of s); count = length (passed_text k s) }

-- where that stands in s: what callers need of it to cut s and the output
pub record Placed (s : List ℕ) (r : Passed) : Type 0 where
  pub within : r.at ≤ length s
  pub rest : drop r.at s ≡ rest_of s
  pub few : r.count ≤ 53 * length s

-- what is kept of a line that goes on: more than 256 bytes are refusal 1, whatever follows
abbrev pub kept : List ℕ → List ℕ
kept l = take 257 l

-- a piece of the input, with what was kept in front of it: what is known behind its lines, how many bytes are kept, how many it adds
unfoldable pub piece_of : Option Moment → List ℕ → Piece
piece_of k s = record { known = after_lines k (whole_of s); held = length (kept (rest_of s)); count = length (passed_text k s) }

-- what callers need of it for a piece of n bytes
pub record Held (n : ℕ) (r : Piece) : Type 0 where
  pub few : r.held ≤ 257
  pub within : r.held ≤ n
  pub count : r.count ≤ 53 * n

-- what the bytes behind the last line feed, if any, add when the input ends
unfoldable pub last_text : Option Moment → List ℕ → List ℕ
last_text k l = lines_text k (last_of l)

-- what is written for input that comes in pieces: before the next piece stands what was kept of the line that goes on
abbrev pub in_pieces : Option Moment → List ℕ → List (List ℕ) → List ℕ
in_pieces k l [] = last_text k l
in_pieces k l (p ∷ ps) = passed_text k (l ++ p) ++ in_pieces (after_lines k (whole_of (l ++ p))) (kept (rest_of (l ++ p))) ps

-- the pieces one behind another
abbrev pub joined : List (List ℕ) → List ℕ
joined [] = []
joined (p ∷ ps) = p ++ joined ps
