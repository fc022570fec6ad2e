-- What was written of a moment as a phrase is read back, from bytes to numbers. Assumes nothing.
use Prim.Native.Nat.{ℕ}
use native.Mathlib.Omega.{arith}
use mathlib.Core.Path.{◌≡◌}
use mathlib.Core.List.{List}
use lib.ListN.{length, take}
use Rattle.refusals.specs.Answers.{given}
use Rattle.refusals.specs.Writings.{buffer_of}
use Rattle.refusals.proofs.Holds.{given_holds}
use Rattle.calendar.specs.Moments.{IsMoment, seven}
use Rattle.calendar.specs.declared.moments.Moment.{Moment}
use Rattle.lexer.specs.declared.reading.Reading.TheVariants.{First, Second}
use Rattle.shown.specs.Phrases.{shown_of}
use Rattle.shown.proofs.Writings.{writing, written_reads}
use Rattle.fuzzydate.specs.Called.{answer_in, written_code}
use Rattle.agreed.specs.Calls.{WritePhrase, Shows, in_first, in_second, Read, number, size}
use Rattle.agreed.proofs.AnyNow.{tells}
use Rattle.agreed.proofs.Agreed.{read_says}
use Rattle.agreed.proofs.Written.{Writes, written_so}

pub write_says :
    (t : Moment) {text text' : List ℕ} {k : ℕ} → WritePhrase t text k text' → Writes (shown_of t (length text)) text k text'
write_says t =
    tells written_code (λ x l. buffer_of l x) (λ g l. shown_of g (length l)) (λ κs a e k g l h p. record { number_is = p.0; array'_is = p.1 })

-- a phrase that was written, in each reading that gives its moment back
read_shown :
    (t n : Moment) (room : ℕ) (s : List ℕ) (reading : ℕ) → shown_of t room ≡ given s → IsMoment n → Shows t.year reading →
    answer_in reading s n ≡ given t
read_shown t n room s reading e v in_first = written_reads First t room s n e (given_holds (writing t room) e).moment.date.year_low v
read_shown t n room s reading e v (in_second h) = written_reads Second t room s n e h v

-- "either reading gives that moment back at every valid now": what showing a moment left, read from as many bytes as it said, in either reading
-- for the years 1000 to 9999 and in the first for the years 1 to 999, gives 0 and that moment's numbers; and a refusal writes nothing
pub shown_again :
    (t : Moment) (text text' : List ℕ) (k : ℕ) → WritePhrase t text k text' →
    (number k ≡ 0 → (reading : ℕ) → Shows t.year reading → (n : Moment) → IsMoment n → (array array' : List ℕ) (r : ℕ) →
    Read reading (take (size k) text') n array r array' → (r ≡ 0) × (array' ≡ seven t))
    × ((number k ≡ 0 → ⊥) → text' ≡ text)
shown_again t text text' k call =
    written_so {Q = λ bytes. (reading : ℕ) → Shows t.year reading → (n : Moment) → IsMoment n → (array array' : List ℕ) (r : ℕ) →
    Read reading bytes n array r array' → (r ≡ 0) × (array' ≡ seven t)}
    (writing t (length text)) (λ s p. p.fits)
    (λ s e reading shows n v array array' r read.
    let says = rw (read_shown t n (length text) s reading e v shows) at (read_says reading read) in
    (says.number_is, says.array'_is))
    (omega arith) (write_says t call)
