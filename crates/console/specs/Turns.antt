-- What a piece of the input leads to. No contract can say which bytes were read, so they are some bytes. Assumes nothing.
use Rattle.std.specs.Prelude.{ℕ, ◌+◌, ◌≤◌, ◌<◌, ◌≡◌, List, [], ◌++◌, length, take, Option, None}
use Rattle.std.proofs.lemmas.List.Edits.{sets}
use Rattle.calendar.specs.declared.moments.Moment.{Moment}
use Rattle.text.specs.Lines.{whole_of, rest_of}
use Rattle.text.specs.Output.{after_lines, passed_text, kept}
use Rattle.console.specs.declared.Stand.{Stand}
use Rattle.console.specs.declared.Turn.{Turn}
use Rattle.console.specs.declared.Turn.TheVariants.{More, Failed, Ended}

-- some r bytes stand behind the first `held`, which are as before
pub record ReadBehind (held r : ℕ) (before after : List ℕ) : Type 0 where
  pub room : held + r ≤ length before
  pub front : take held after ≡ take held before

-- m was kept before, s is the input's buffer afterwards, and out became out': behind some piece the program stands where `in_pieces` does
pub record MoreTo (k : Option Moment) (m : List ℕ) (k' : Option Moment) (h : ℕ) (s out out' : List ℕ) : Type 0 where
  pub piece : List ℕ
  pub known : k' ≡ after_lines k (whole_of (m ++ piece))
  pub rest : take h s ≡ kept (rest_of (m ++ piece))
  pub few : h ≤ 257
  pub text : out' ≡ sets out 0 (passed_text k (m ++ piece))

-- where the input has ended, what was kept is still there
abbrev pub Turned : Option Moment → List ℕ → Turn → List ℕ → List ℕ → List ℕ → Type 0
Turned k m (More k' h) s out out' = MoreTo k m k' h s out out'
Turned k m (Failed k' h) s out out' = MoreTo k m k' h s out out'
Turned k m Ended s out out' = (take (length m) s ≡ m) × (out' ≡ out)

-- k is known and l kept behind some pieces of the input, as `in_pieces` goes through them
pub data Reached : Option Moment → List ℕ → Type 0 where
  start : Reached None []
  behind : {k : Option Moment} {l : List ℕ} (p : List ℕ) → Reached k l → Reached (after_lines k (whole_of (l ++ p))) (kept (rest_of (l ++ p)))

-- what the loop leaves: some pieces are read, and what is kept stands at the front of the input's buffer
pub record Stands (r : Stand) (s : List ℕ) : Type 0 where
  pub reached : Reached r.known (take r.held s)
  pub within : r.held < length s
