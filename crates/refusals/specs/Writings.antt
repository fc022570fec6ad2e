-- What a writer gives: a text at the front of a lent buffer, or a refusal and nothing written.
use Rattle.std.specs.Prelude.{ℕ, cond, List, leb, length, Result, Ok, Err}
use Rattle.std.proofs.lemmas.List.Edits.{sets}
use Rattle.refusals.specs.declared.Reason.{Reason}
use Rattle.refusals.specs.declared.Reason.TheVariants.{NoRoom}
use Rattle.refusals.specs.Answers.{Answer, given, refused, refuse}

-- a text in so many bytes of room: "17 for a buffer too short"
abbrev pub fitted : List ℕ → ℕ → Answer (List ℕ)
fitted text room = cond (leb (length text) room) (given text) (refuse NoRoom 0 0)

-- the code's answer: the text's length, or the reason of a refusal
abbrev pub wrote_of : Answer (List ℕ) → Result ℕ Reason
wrote_of (given text) = Ok (length text)
wrote_of (refused r) = Err r.reason

-- the lent buffer: the text at its front and all else as before, or, refused, "nothing written"
abbrev pub buffer_of : List ℕ → Answer (List ℕ) → List ℕ
buffer_of before (given text) = sets before 0 text
buffer_of before (refused r) = before
