-- What is answered, or the refusal, with its place and its part in the phrase.
use Rattle.std.specs.Prelude.{ℕ, ◌-◌, List, take, drop, Result, Ok, Err}
use Rattle.refusals.specs.declared.Reason.{Reason}
use Rattle.refusals.specs.Table.{number_of}
use Rattle.refusals.specs.declared.Refusal.{Refusal}

-- what is answered, or the refusal
pub data Answer (A : Type 0) : Type 0 where
  given : A → Answer A
  refused : Refusal → Answer A

-- the code's answer
abbrev pub answer_from : {A : Type 0} → Result A Refusal → Answer A
answer_from (Ok x) = given x
answer_from (Err r) = refused r

-- a refusal by its reason, its place and the end of its part
abbrev pub refusal_at : Reason → ℕ → ℕ → Refusal
refusal_at k a e = record { reason = k; place = a; end = e }

-- the answer that it is
abbrev pub refuse : {A : Type 0} → Reason → ℕ → ℕ → Answer A
refuse k a e = refused (refusal_at k a e)

-- what is answered is handed on, and a refusal stays
abbrev pub and_then : {A B : Type 0} → Answer A → (A → Answer B) → Answer B
and_then (given x) f = f x
and_then (refused r) f = refused r

-- its number, 0 where nothing is refused
abbrev pub number_in : {A : Type 0} → Answer A → ℕ
number_in (given x) = 0
number_in (refused r) = number_of r.reason

-- the bytes from a up to e
abbrev pub between : List ℕ → ℕ → ℕ → List ℕ
between s a e = take (e - a) (drop a s)

-- the place of a refusal, 0 where nothing is refused
abbrev pub place_of : {A : Type 0} → Answer A → ℕ
place_of (given x) = 0
place_of (refused r) = r.place

-- the end of its part, 0 where nothing is refused
abbrev pub end_of : {A : Type 0} → Answer A → ℕ
end_of (given x) = 0
end_of (refused r) = r.end

-- "hand back the offending part": empty where nothing is refused
abbrev pub offending_of : {A : Type 0} → List ℕ → Answer A → List ℕ
offending_of s w = between s (place_of w) (end_of w)
