-- The paper's listing: an input of `fuzzy`, and "its whole output".
use Rattle.refusals.specs.declared.Reason.TheVariants.{Unknown, LeftOver}
use Rattle.std.specs.Prelude.{◌≡◌, refl, List, [], ◌∷◌, ◌++◌, map, ℕ, get_or}
use Rattle.std.proofs.Common.{ap, ◌∙◌}
use Rattle.digits.specs.Bytes.{bytes_of}
use Rattle.digits.specs.Digits.{width_of}
use Rattle.lexer.specs.Keywords.{keywords, words_in}
use Rattle.lexer.specs.Classes.{class_of, mark_of}
use Rattle.lexer.specs.Lex.{word_at, token_at, lexed}
use Rattle.phrase.specs.Read.{read_of}
use Rattle.calendar.specs.declared.moments.Moment.{Moment}
use Rattle.text.specs.Answers.{Answer, given, refuse, moment_of, First, answer_of, starred, starred_as_listed}
use Rattle.text.specs.Nows.{now_of}
use Rattle.text.specs.Lines.{feed}
use Rattle.text.specs.Texts.{text_of}
use Rattle.text.specs.Output.{answer_lines, output}

-- the listing's now, and its three phrases
abbrev A : Moment
A = moment_of 2026 2 11 9 30 15 0

abbrev phrases : List (List ℕ)
phrases = bytes_of "next friday" ∷ bytes_of "forty days ago" ∷ bytes_of "5/2" ∷ []

-- row i of the starred table
starred_row :
    (i : ℕ) →
    get_or (map (λ c. answer_of First (words_in First) c.phrase c.from) starred) i (refuse Unknown 0 0)
    ≡ get_or (map (λ c. c.answer) starred) i (refuse Unknown 0 0)
starred_row i = ap (λ (l : List (Answer Moment)). get_or l i (refuse Unknown 0 0)) starred_as_listed.0

next_friday : answer_of First (words_in First) (bytes_of "next friday") A ≡ given (moment_of 2026 2 20 9 30 15 0)
unfolding starred
next_friday = starred_row 1

-- "forty" is no word of the Rust's
forty_days_ago : answer_of First (words_in First) (bytes_of "forty days ago") A ≡ refuse Unknown 0 5
unfolding answer_of read_of lexed token_at word_at class_of mark_of keywords words_in
forty_days_ago = refl

five_two : answer_of First (words_in First) (bytes_of "5/2") A ≡ refuse LeftOver 1 3
unfolding starred
five_two = starred_row 6

-- three answers, a line each
abbrev answers : Answer Moment → Answer Moment → Answer Moment → List ℕ
answers x y z = (text_of x ++ (feed ∷ [])) ++ ((text_of y ++ (feed ∷ [])) ++ ((text_of z ++ (feed ∷ [])) ++ []))

-- the listing's first line, and what its phrases are answered
first_line : now_of (bytes_of "2026-02-11 09:30:15") ≡ A
unfolding now_of
first_line = refl

answered : answer_lines A phrases ≡ answers (given (moment_of 2026 2 20 9 30 15 0)) (refuse Unknown 0 5) (refuse LeftOver 1 3)
answered =
    ap (λ (x : Answer Moment). answers x (answer_of First (words_in First) (bytes_of "forty days ago") A) (answer_of First (words_in First) (bytes_of "5/2") A)) next_friday
    ∙ ap (λ (y : Answer Moment). answers (given (moment_of 2026 2 20 9 30 15 0)) y (answer_of First (words_in First) (bytes_of "5/2") A)) forty_days_ago
    ∙ ap (λ (z : Answer Moment). answers (given (moment_of 2026 2 20 9 30 15 0)) (refuse Unknown 0 5) z) five_two

spelled :
    answers (given (moment_of 2026 2 20 9 30 15 0)) (refuse Unknown 0 5) (refuse LeftOver 1 3)
    ≡ bytes_of "2026-02-20 09:30:15\nrefused 2 at 0\nrefused 7 at 1\n"
unfolding text_of width_of
spelled = refl

-- the output of the listing's input is the listing's output
pub as_listed :
    output (bytes_of "2026-02-11 09:30:15\nnext friday\nforty days ago\n5/2\n")
    ≡ bytes_of "2026-02-20 09:30:15\nrefused 2 at 0\nrefused 7 at 1\n"
unfolding output
as_listed = ap (λ (n : Moment). answer_lines n phrases) first_line ∙ answered ∙ spelled
