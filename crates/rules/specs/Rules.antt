-- RFC 5545, section 3.3.10: a rule's text, and the rule that it says. Assumes nothing.
use Rattle.std.specs.Prelude.{ℕ, Bool, true, false, ◌&&◌, cond, not, List, [], ◌∷◌, Option, Some, None}
use Rattle.std.specs.Option.{is_none, unwrap_or, option_and_then}
use Prim.Native.Char.{code}
use Rattle.refusals.specs.declared.Reason.TheVariants.{NoRule}
use Rattle.refusals.specs.Answers.{Answer, given, refuse}
use Rattle.digits.specs.Bytes.{bytes_of}
use Rattle.digits.specs.Forms.{of_form}
use Rattle.rules.specs.Cut.{pieces}
use Rattle.rules.specs.Parts.{part_of}
use Rattle.rules.specs.declared.Freq.{Freq}
use Rattle.rules.specs.declared.Freq.TheVariants.{Daily, Weekly, Monthly}
use Rattle.rules.specs.declared.Bound.TheVariants.{Endless}
use Rattle.rules.specs.declared.Rule.{Rule}
use Rattle.rules.specs.declared.part.Part.{Part}
use Rattle.rules.specs.declared.part.Part.TheVariants.{Interval, Bounded, Days, Day, Monday}
use Rattle.rules.specs.declared.draft.Draft.{Draft}

-- a rule of which only FREQ is read: the other places are free
abbrev pub draft_of : Freq → Draft
draft_of f = record { freq = f; interval = None; bound = None; days = None; day = None; monday = false }

-- "FREQ of DAILY, WEEKLY or MONTHLY", in front of all parts
unfoldable pub begun : List ℕ → Option Draft
begun p =
    cond (of_form (bytes_of "FREQ=DAILY") p) (Some (draft_of Daily))
    (cond (of_form (bytes_of "FREQ=WEEKLY") p) (Some (draft_of Weekly))
    (cond (of_form (bytes_of "FREQ=MONTHLY") p) (Some (draft_of Monthly)) None))

abbrev pub is_weekly : Freq → Bool
is_weekly Daily = false
is_weekly Weekly = true
is_weekly Monthly = false

abbrev pub is_monthly : Freq → Bool
is_monthly Daily = false
is_monthly Weekly = false
is_monthly Monthly = true

-- a part's place is free, "each once": "COUNT .. or UNTIL but not both" share a place, "BYDAY without numbers for WEEKLY",
-- "one positive BYMONTHDAY for MONTHLY"
abbrev pub takes : Draft → Part → Bool
takes d (Interval n) = is_none d.interval
takes d (Bounded b) = is_none d.bound
takes d (Days n) = is_weekly d.freq && is_none d.days
takes d (Day n) = is_monthly d.freq && is_none d.day
takes d Monday = not d.monday

-- the draft with a part in its place
abbrev pub placed : Draft → Part → Draft
placed d (Interval n) = record { freq = d.freq; interval = Some n; bound = d.bound; days = d.days; day = d.day; monday = d.monday }
placed d (Bounded b) = record { freq = d.freq; interval = d.interval; bound = Some b; days = d.days; day = d.day; monday = d.monday }
placed d (Days n) = record { freq = d.freq; interval = d.interval; bound = d.bound; days = Some n; day = d.day; monday = d.monday }
placed d (Day n) = record { freq = d.freq; interval = d.interval; bound = d.bound; days = d.days; day = Some n; monday = d.monday }
placed d Monday = record { freq = d.freq; interval = d.interval; bound = d.bound; days = d.days; day = d.day; monday = true }

-- a part put into a draft, if its place is free
abbrev pub put : Draft → Part → Option Draft
put d p = cond (takes d p) (Some (placed d p)) None

-- the rule, when all parts are in their places: INTERVAL "(else 1)"
abbrev pub rule_in : Draft → Rule
rule_in d =
    record {
      freq = d.freq;
      interval = unwrap_or d.interval 1;
      bound = unwrap_or d.bound Endless;
      days = unwrap_or d.days 0;
      day = unwrap_or d.day 0;
    }

-- "Parts may come in any order after FREQ, each once"
abbrev pub read_parts : Draft → List (List ℕ) → Option Rule
read_parts d [] = Some (rule_in d)
read_parts d (p ∷ ps) = option_and_then (λ e. read_parts e ps) (option_and_then (put d) (part_of p))

abbrev pub read_pieces : List (List ℕ) → Option Rule
read_pieces [] = None
read_pieces (p ∷ ps) = option_and_then (λ d. read_parts d ps) (begun p)

-- "18 for a rule outside this"
abbrev pub rule_answer : Option Rule → Answer Rule
rule_answer None = refuse NoRule 0 0
rule_answer (Some r) = given r

-- "recur = recur-rule-part *( ";" recur-rule-part )"
unfoldable pub read_rule : List ℕ → Answer Rule
read_rule s = rule_answer (read_pieces (pieces (code ";") s))
