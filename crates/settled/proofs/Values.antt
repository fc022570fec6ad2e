-- The definitions by which promises speak of results are different for different results: each has a way back. Assumes nothing.
use mathlib.Core.Path.{◌≡◌, refl, sym, ap, subst, ◌∙◌}
use mathlib.Core.List.{List}
use Prim.Native.Nat.{ℕ}
use denote.Ref.{Bor}
use Rattle.std.specs.Prelude.{Option, Some, None, option_map, IfSome, Result, Ok, Err}
use Rattle.std.proofs.Props.{props}
use Rattle.refusals.specs.Answers.{Answer, given, refused as refused_answer, answer_from}
use Rattle.refusals.specs.declared.Reason.{Reason}
use Rattle.refusals.specs.declared.Refusal.{Refusal}
use Rattle.calendar.specs.Moments.{Reach, moment, refused, reached_of}
use Rattle.calendar.specs.declared.moments.Moment.{Moment}
use Rattle.numbers.specs.Answers.{overflow as too_large}
use Rattle.numbers.specs.declared.Overflow.{Overflow}
use Rattle.dates.specs.Parsed.{Parsed, is, nothing, overflow, parsed, parsed_one}
use Rattle.stamp.specs.Stamps.{stamp_answer}
use Rattle.stamp.specs.declared.Stamp.{Stamp}
use Rattle.rules.specs.Rules.{rule_answer}
use Rattle.rules.specs.declared.Rule.{Rule}
use Rattle.tzif.specs.File.{IsChecked}
use Rattle.tzif.specs.declared.file.Places.{Places}
use Rattle.tzif.specs.declared.zone.Zone.{Zone}
use Rattle.zones.specs.Civil.{answer_of}
use Rattle.zones.specs.Instants.{settled_of}
use Rattle.zones.specs.declared.instants.Instant.{Instant}
use Rattle.zoned.specs.Local.{located_of}
use Rattle.zoned.specs.declared.local.Local.{Local}
use Rattle.board.specs.Boards.{head_from}
use Rattle.board.specs.declared.Due.{Due}

given_back : {A B : Type 0} (value : A → B) (back : B → A) → ((x : A) → back (value x) ≡ x) → (x y : A) → value x ≡ value y → x ≡ y
given_back value back known x y e = sym (known x) ∙ ap back e ∙ known y

module _ {A : Type 0} where
  abbrev found : Parsed A → Result (Option (A × ℕ)) Overflow
  found (is v t) = Ok (Some (v, t))
  found nothing = Ok None
  found overflow = Err too_large

  found_back : (x : Result (Option (A × ℕ)) Overflow) → found (parsed x) ≡ x
  found_back (Ok (Some (v, t))) = refl
  found_back (Ok None) = refl
  found_back (Err e) = refl

  -- a value and the lexemes taken, or nothing, or an overflow
  pub found_one : (x y : Result (Option (A × ℕ)) Overflow) → parsed x ≡ parsed y → x ≡ y
  found_one = given_back parsed found found_back

  abbrev lexeme : Parsed A → Option A
  lexeme (is v t) = Some v
  lexeme nothing = None
  lexeme overflow = None

  lexeme_back : (x : Option A) → lexeme (parsed_one x) ≡ x
  lexeme_back (Some v) = refl
  lexeme_back None = refl

  -- what one lexeme says, if it does
  pub lexeme_one : (x y : Option A) → parsed_one x ≡ parsed_one y → x ≡ y
  lexeme_one = given_back parsed_one lexeme lexeme_back

  abbrev reach : Reach A → Result A Reason
  reach (moment x) = Ok x
  reach (refused k) = Err k

  reach_back : (x : Result A Reason) → reach (answer_of x) ≡ x
  reach_back (Ok x) = refl
  reach_back (Err k) = refl

  -- what is reached, or why it is refused
  pub reach_one : (x y : Result A Reason) → answer_of x ≡ answer_of y → x ≡ y
  reach_one = given_back answer_of reach reach_back

  abbrev answer : Answer A → Result A Refusal
  answer (given x) = Ok x
  answer (refused_answer r) = Err r

  answer_back : (x : Result A Refusal) → answer (answer_from x) ≡ x
  answer_back (Ok x) = refl
  answer_back (Err r) = refl

  -- what is answered, or the refusal
  pub answer_one : (x y : Result A Refusal) → answer_from x ≡ answer_from y → x ≡ y
  answer_one = given_back answer_from answer answer_back

  -- the same of a refusal without a part, by its reason
  abbrev reason : Answer A → Result A Reason
  reason (given x) = Ok x
  reason (refused_answer r) = Err r.reason

  -- and of one whose reason is known
  abbrev some : Answer A → Option A
  some (given x) = Some x
  some (refused_answer r) = None

reached_back : (x : Result Moment Reason) → reach (reached_of x) ≡ x
reached_back (Ok t) = refl
reached_back (Err k) = refl

pub reached_one : (x y : Result Moment Reason) → reached_of x ≡ reached_of y → x ≡ y
reached_one = given_back reached_of reach reached_back

module _ {R : Type 0} where
  abbrev settled_back : Result (Reach Instant) R → Result (Result Instant Reason) R
  settled_back (Ok x) = Ok (reach x)
  settled_back (Err k) = Err k

  settled_again : (x : Result (Result Instant Reason) R) → settled_back (settled_of x) ≡ x
  settled_again (Ok (Ok x)) = refl
  settled_again (Ok (Err k)) = refl
  settled_again (Err k) = refl

  -- where a civil answer settles, or why it was refused ahead of that
  pub settled_one : (x y : Result (Result Instant Reason) R) → settled_of x ≡ settled_of y → x ≡ y
  settled_one = given_back settled_of settled_back settled_again

stamp_back : (x : Result Stamp Reason) → reason (stamp_answer x) ≡ x
stamp_back (Ok st) = refl
stamp_back (Err k) = refl

pub stamp_one : (x y : Result Stamp Reason) → stamp_answer x ≡ stamp_answer y → x ≡ y
stamp_one = given_back stamp_answer reason stamp_back

rule_back : (x : Option Rule) → some (rule_answer x) ≡ x
rule_back (Some r) = refl
rule_back None = refl

pub rule_one : (x y : Option Rule) → rule_answer x ≡ rule_answer y → x ≡ y
rule_one = given_back rule_answer some rule_back

located_back : (x : Result Local Reason) → reason (located_of x) ≡ x
located_back (Ok x) = refl
located_back (Err k) = refl

pub located_one : (x y : Result Local Reason) → located_of x ≡ located_of y → x ≡ y
located_one = given_back located_of reason located_back

head_back : (x : Option Due) → some (head_from x) ≡ x
head_back (Some d) = refl
head_back None = refl

pub head_one : (x y : Option Due) → head_from x ≡ head_from y → x ≡ y
head_one = given_back head_from some head_back

-- a zone is the one of its file and its places: that they were checked has one proof
checked_once : (l : List ℕ) (p : Places) → IsProp (IsChecked l p)
checked_once l p = Prim.hlevel props

pub zone_one : (z w : Zone) → z.places ≡ w.places → z.file ≡ w.file → z ≡ w
zone_one z w p q =
    subst (λ (f : Bor (List ℕ)). (c : IsChecked f.now w.places) → z ≡ record { file = f; places = w.places; checked = c }) q
    (subst (λ (r : Places). (c : IsChecked z.file.now r) → z ≡ record { file = z.file; places = r; checked = c }) p
    (λ c. ap (λ (d : IsChecked z.file.now z.places). record { file = z.file; places = z.places; checked = d }) (checked_once z.file.now z.places z.checked c)))
    w.checked

abbrev pub seen : Option Zone → Option (Bor (List ℕ) × Places)
seen None = None
seen (Some z) = Some (z.file, z.places)

pub zones_one : (x y : Option Zone) → seen x ≡ seen y → x ≡ y
zones_one None None e = refl
zones_one None (Some w) e = cc
zones_one (Some z) None e = cc
zones_one (Some z) (Some w) e =
    let pair : (z.file, z.places) ≡ (w.file, w.places) = cc in
    ap Some (zone_one z w (ap (λ (x : Bor (List ℕ) × Places). x.1) pair) (ap (λ (x : Bor (List ℕ) × Places). x.0) pair))

pub seen_of :
    (x : Option Zone) (file : Bor (List ℕ)) {found : Option Places} → option_map (λ z. z.places) x ≡ found → IfSome x (λ z. z.file ≡ file) →
    seen x ≡ option_map (λ p. (file, p)) found
seen_of None file e h = rw (← e)
seen_of (Some z) file e h = rw (← e, h)
