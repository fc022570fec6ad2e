-- What an app gets: one number, and what is written into the array that it lends.
use Rattle.std.specs.Prelude.{ℕ, ◌+◌, ◌-◌, ◌*◌, ◌≤◌, cond, ◌&&◌, List, [], ◌∷◌, ◌++◌, eqb, length, get_or, Result, Ok, Err, Option, Some, None}
use Rattle.std.proofs.lemmas.List.Edits.{sets}
use Rattle.refusals.specs.Table.{number_of}
use Rattle.refusals.specs.declared.Reason.TheVariants.{NoReading, InvalidMoment}
use Rattle.refusals.specs.Answers.{Answer, given, refused, refuse, and_then}
use Rattle.refusals.specs.declared.Reason.{Reason}
use Rattle.refusals.specs.declared.Refusal.{Refusal}
use Rattle.calendar.specs.Moments.{seven, moment_in, is_moment}
use Rattle.calendar.specs.declared.moments.Moment.{Moment}
use Rattle.lexer.specs.Keywords.{words_in}
use Rattle.lexer.specs.Words.{folded}
use Rattle.lexer.specs.Visits.{looked_up}
use Rattle.lexer.specs.declared.find.Looked.{Looked}
use Rattle.lexer.specs.declared.reading.Reading.{Reading}
use Rattle.lexer.specs.declared.reading.Reading.TheVariants.{First, Second}
use Rattle.answer.specs.Answer.{answer_of}
use Rattle.ready.specs.Ready.{ReadyPhrase, ready_of}
use Rattle.records.specs.Records.{encode_of}
use Rattle.stamp.specs.declared.Stamp.{Stamp}
use Rattle.rules.specs.Rules.{read_rule}
use Rattle.repeats.specs.Listing.{list_of}
use Rattle.coming.specs.Next.{next_of}
use Rattle.phrase.specs.Read.{read_of}
use Rattle.tzif.specs.File.{turned}
use Rattle.zones.specs.Instants.{instant_by}
use Rattle.zones.specs.declared.instants.Instant.{Instant}
use Rattle.zoned.specs.Local.{evaluate_in_zone}
use Rattle.zoned.specs.declared.local.Local.{Local}
use Rattle.board.specs.Boards.{Done}
use Rattle.board.specs.declared.Due.{Due}

-- the version of what apps call, which the file VERSION says
abbrev pub major : ℕ
major = 1

abbrev pub minor : ℕ
minor = 0

abbrev pub patch : ℕ
patch = 0

-- as one number
abbrev pub version : ℕ
version = 1000000 * major + 1000 * minor + patch

-- "chosen by the caller as 1 or 2": "15 for any other reading number, before 1"
abbrev pub reading_of : ℕ → Answer Reading
reading_of k = cond (eqb k 1) (given First) (cond (eqb k 2) (given Second) (refuse NoReading 0 0))

-- a phrase at a now in the reading of a number
abbrev pub answer_in : ℕ → List ℕ → Moment → Answer Moment
answer_in k s n = and_then (reading_of k) (λ reading. answer_of reading (words_in reading) s n)

-- a phrase made ready in the reading of a number
abbrev pub ready_in : ℕ → List ℕ → ReadyPhrase
ready_in k s = and_then (reading_of k) (λ reading. ready_of reading (words_in reading) s)

-- a refusal's number, its place from bit 16 on, and the length of its part from bit 32 on
abbrev pub code : Refusal → ℕ
code r = number_of r.reason + 65536 * r.place + 4294967296 * (r.end - r.place)

-- a part within the bytes that a phrase may have
abbrev pub Part : Refusal → Type 0
Part r = (r.place ≤ r.end) × (r.end ≤ 256)

-- 0 for a moment or a stamp
abbrev pub code_of : {A : Type 0} → Answer A → ℕ
code_of (given x) = 0
code_of (refused r) = code r

-- what the seven numbers of a moment are written over; on a refusal it stays
abbrev pub moment_after : Answer Moment → List ℕ → List ℕ
moment_after (given t) lent = seven t
moment_after (refused r) lent = lent

-- of a ready phrase: 0 for the number and the place, and its length in bytes from bit 32 on
abbrev pub ready_code : ReadyPhrase → ℕ
ready_code (given ss) = 4294967296 * (16 * length ss)
ready_code (refused r) = code r

-- its records from the start on; what stands behind them stays
abbrev pub ready_after : ReadyPhrase → List ℕ → List ℕ
ready_after (given ss) lent = sets lent 0 (encode_of ss)
ready_after (refused r) lent = lent

-- these seven and an offset's two
abbrev pub nine : Moment → ℕ → ℕ → List ℕ
nine t west offset = seven t ++ (west ∷ offset ∷ [])

-- what they are written over; on a refusal it stays
abbrev pub stamp_after : Answer Stamp → List ℕ → List ℕ
stamp_after (given st) lent = nine st.moment st.offset.west st.offset.minutes
stamp_after (refused r) lent = lent

-- the stamp of nine numbers
abbrev pub stamp_in : List ℕ → Stamp
stamp_in l = record { moment = moment_in l; offset = record { west = get_or l 7 0; minutes = get_or l 8 0 } }

-- of what is written: 0 for the number and the place, and the count of a text's bytes or of listed rows from bit 32 on
abbrev pub written_code : Answer (List ℕ) → ℕ
written_code (given text) = 4294967296 * length text
written_code (refused r) = code r

-- the same of the code's answer
abbrev pub wrote_code : Result ℕ Reason → ℕ
wrote_code (Ok n) = 4294967296 * n
wrote_code (Err k) = number_of k

-- 0 for what is done
abbrev pub done_code : Result (Unit {0}) Reason → ℕ
done_code (Ok x) = 0
done_code (Err k) = number_of k

-- a word looked up in the reading of a number, letters in either case
abbrev pub found_in : ℕ → List ℕ → Answer Looked
found_in k w = and_then (reading_of k) (λ reading. given (looked_up (words_in reading) (folded w)))

-- a lexeme's code, 0 for a word that is absent
abbrev pub lexeme_code : Option ℕ → ℕ
lexeme_code (Some l) = l
lexeme_code None = 0

-- that code and the count of comparisons are written over what was lent; on a refusal it stays
abbrev pub found_after : Answer Looked → List ℕ → List ℕ
found_after (given l) lent = lexeme_code l.code ∷ l.count ∷ []
found_after (refused r) lent = lent

-- a rule's occurrences from a start on, as many as so many numbers have room for: "8 for a start that is no moment, 18 for a rule outside this,
-- 19 for a start that doesn't match or lies past UNTIL"
abbrev pub list_in : List ℕ → Moment → ℕ → Answer (List ℕ)
list_in s t size = cond (is_moment t) (and_then (read_rule s) (λ r. list_of r t size)) (refuse InvalidMoment 0 0)

-- the first occurrence at or after an asked moment: "8 covers the asked moment too; after 18 and 19, 20"
abbrev pub next_in : List ℕ → Moment → Moment → Answer Moment
next_in s t asked = cond (is_moment t && is_moment asked) (and_then (read_rule s) (λ r. next_of r t asked)) (refuse InvalidMoment 0 0)

-- an instant by a caller's numbers: seconds since 1970 with a sign, in 64 bits, and a millisecond
abbrev pub instant_from : ℕ → ℕ → Instant
instant_from second ms = instant_by (turned second) ms

-- a phrase at an instant of a file's zone, in the reading of a number: 15, 1 to 7, then "21 for the file, just before 8"
abbrev pub read_in_zone : ℕ → List ℕ → List ℕ → Instant → Answer Local
read_in_zone k s file n = and_then (reading_of k) (λ reading. and_then (read_of reading (words_in reading) s) (λ x. evaluate_in_zone x.tree file n))

-- the instant's second is written over what was lent; on a refusal it stays
abbrev pub due_after : Answer Local → List ℕ → List ℕ
due_after (given x) lent = turned x.second ∷ []
due_after (refused r) lent = lent

-- and the civil moment's seven numbers, west as 1 or 0, and the offset in seconds
abbrev pub local_after : Answer Local → List ℕ → List ℕ
local_after (given x) lent = nine x.civil (cond x.west 1 0) x.offset
local_after (refused r) lent = lent

-- of a reminder that is added: 0 for the number and the place, and its slot from bit 32 on
abbrev pub added_code : Answer Done → ℕ
added_code (given d) = 4294967296 * d.number
added_code (refused r) = code r

-- of the one that is due first: its slot likewise
abbrev pub head_code : Answer Due → ℕ
head_code (given d) = 4294967296 * d.slot
head_code (refused r) = code r

-- its moment's seven numbers are written over what was lent; on a refusal it stays
abbrev pub head_after : Answer Due → List ℕ → List ℕ
head_after (given d) lent = seven d.moment
head_after (refused r) lent = lent
