-- Which occurrence comes next, by the closed forms.
use mathlib.Core.Path.{◌≡◌, ◌∙◌}
use mathlib.Core.Bool.{Bool, true, cond, ◌&&◌}
use mathlib.Core.Logic.{⊎_elim}
use mathlib.Core.List.{append-nil, []}
use Rattle.std.proofs.Common.{Some, None}
use lib.ListN.{length, take}
use lib.Dec.{ltb}
use Prim.Native.Nat.{ℕ, zero, suc, ◌-◌, ◌≤◌, ◌<◌}
use native.Mathlib.Omega.{arith}
use borrow.Author.Tests.{le-leb, lt-leb, lt-ltb, le-ltb}
use Rattle.calendar.specs.Gregorian.{days}
use Rattle.digits.proofs.Order.{le-or_lt}
use Rattle.calendar.proofs.Dates.{is_date_lem}
use Rattle.coming.specs.Counts.{count_before}
use Rattle.coming.specs.Next.{first_at, next_day}
use Rattle.repeats.specs.Firsts.{first_from}
use Rattle.repeats.specs.Held.{between}
use Rattle.repeats.specs.Occurrences.{Repeat, daily, holds, monthly, weekly}
use Rattle.coming.proofs.Asked.{asked, held_below, nothing, skip}
use Rattle.coming.proofs.Daily.{daily_count}
use Rattle.coming.proofs.Monthly.{monthly_count}
use Rattle.coming.proofs.Weekly.{weekly_count}
use Rattle.repeats.proofs.Rules.{found, monthly_start, starts}

-- a closed form is the number of days from s on below b that hold
pub counted : (r : Repeat) (i s b : ℕ) → 1 ≤ i → holds r i s s ≡ true → s ≤ b → b < days →
    length (between (holds r i s) s b) ≡ count_before r i s b
unfolding count_before
counted daily i s b h e g t = daily_count i s b h g
counted (weekly w) i s b h e g t = weekly_count w i s b h g
counted (monthly d) i s b h e g t =
    let f = monthly_start d i s e in
    let x = (is_date_lem s (omega arith)).day_low in
    monthly_count d i s b (omega arith) h f g t

-- E12: the first entry of the full list at or after day b, by the closed forms
pub comes_next : (r : Repeat) (i s b limit c : ℕ) → 1 ≤ i → holds r i s s ≡ true → s ≤ b → b < days → limit ≤ days →
    first_at b (take c (between (holds r i s) s limit)) ≡ cond (ltb (first_from r i s b) limit && ltb (count_before r i s b) c) (Some (first_from r i s b)) None
comes_next r i s b limit c h e g t z =
    rw (← counted r i s b h e g t) (asked (holds r i s) s b (first_from r i s b) c limit g (found r i s b limit h e g t z))

-- a day at or past the limit has none at or after it
pub past_limit : (P : ℕ → Bool) (s b limit c : ℕ) → limit ≤ b → s ≤ limit → first_at b (take c (between P s limit)) ≡ None
past_limit P s b limit c h g =
    rw (← append-nil (between P s limit))
    (skip b (between P s limit) [] c (held_below P s (limit - s) b (omega arith)) ∙ nothing b (c - length (between P s limit)))

-- E12, for every day b
pub next_day_lem : (r : Repeat) (i s limit c b : ℕ) → 1 ≤ i → 1 ≤ c → holds r i s s ≡ true → s < limit → limit ≤ days →
    first_at b (take c (between (holds r i s) s limit)) ≡ next_day r i s limit c b
unfolding next_day
next_day_lem r i s limit zero b h j e g z = absurd (omega arith)
next_day_lem r i s limit (suc c) b h j e g z = ⊎_elim
    (λ (p : b ≤ s). rw (le-leb b s p, starts r i s limit c e g) (unfold first_at in rw (le-leb b s p)))
    (λ (p : s < b). rw (lt-leb b s p) (⊎_elim
    (λ (q : days ≤ b). rw (le-ltb b days q) (past_limit (holds r i s) s b limit (suc c) (omega arith) (omega arith)))
    (λ (q : b < days). rw (lt-ltb b days q) (comes_next r i s b limit (suc c) h e (omega arith) q z))
    (le-or_lt days b)))
    (le-or_lt b s)
