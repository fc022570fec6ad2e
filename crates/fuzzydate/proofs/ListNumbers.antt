-- What is read of a rule's text can be listed, what is listed has few rows, and its refusals have no place. Assumes nothing.
use Rattle.std.specs.Prelude.{ℕ, ◌≡◌, ◌≤◌, Bool, true, false, cond, List, length, Option, Some}
use Rattle.std.proofs.Common.{sym, ap, ◌∙◌}
use native.Mathlib.Omega.{arith}
use Rattle.refusals.specs.declared.Reason.TheVariants.{InvalidMoment}
use Rattle.refusals.specs.Answers.{Answer, refusal_at, refuse, and_then}
use Rattle.refusals.proofs.Holds.{Holds, of_given, of_refusal, Bounded, given_holds}
use Rattle.calendar.specs.Gregorian.{days}
use Rattle.calendar.specs.Moments.{is_moment}
use Rattle.calendar.specs.declared.moments.Moment.{Moment}
use Rattle.rules.specs.Rule.{IsRule}
use Rattle.rules.specs.Rules.{read_rule, rule_answer}
use Rattle.rules.specs.declared.Rule.{Rule}
use Rattle.rules.proofs.Ruled.{rule_read_lem}
use Rattle.repeats.specs.Listing.{list_of}
use Rattle.repeats.proofs.Laws.{list_bounded}
use Rattle.fuzzydate.specs.Called.{list_in}

-- what is read of a text is a rule
pub is_rule : (s : List ℕ) {x : Option Rule} {r : Rule} → rule_answer x ≡ read_rule s → x ≡ Some r → IsRule r
is_rule s read said = given_holds (rule_read_lem s) (sym read ∙ ap rule_answer said)

-- at most as many rows as the calendar has days, or a refusal of 8 to 19
abbrev pub Few : Answer (List ℕ) → Type 0
Few w = Holds (λ (l : List ℕ). length l ≤ days) (Bounded 8 19 0) w

pub listed : (s : List ℕ) (t : Moment) (size : ℕ) → Few (list_in s t size)
listed s t size = go (is_moment t) (read_rule s) (rule_read_lem s)
  where
    go : (b : Bool) (w : Answer Rule) → Holds IsRule (Bounded 18 18 0) w → Few (cond b (and_then w (λ r. list_of r t size)) (refuse InvalidMoment 0 0))
    go false w h = of_refusal {r = refusal_at InvalidMoment 0 0} (omega arith)
    go true w (of_given {x} v) = list_bounded x t v size
    go true w (of_refusal {r} b) = of_refusal {r = r} (omega (arith, b))
