-- How many steps and minutes a plan has, so that one step more has room and neighbours can be joined.
use Rattle.std.specs.Prelude.{ℕ, ◌+◌, ◌*◌, ◌≤◌, ◌<◌}
use Rattle.steps.specs.Joining.{minutes_of}
use Rattle.steps.specs.Plans.{last_of}
use Rattle.steps.specs.declared.plan.Plan.{Plan}

-- the longest that one part can be: 4,294,967,295 weeks
abbrev pub widest : ℕ
widest = 43293270333600

-- at least one step and at most k, and in the last one at most the minutes of k parts
pub record Within (p : Plan) (k : ℕ) : Type 0 where
  pub some : 0 < p.n
  pub most : p.n ≤ k
  pub minutes : minutes_of (last_of p) ≤ k * widest

-- q is p with the parts from one place up to another: at most one step more for each, and in the last one the minutes of so many more
pub record Longer (p q : Plan) (from to : ℕ) : Type 0 where
  pub some : 0 < q.n
  pub most : q.n + from ≤ p.n + to
  pub minutes : minutes_of (last_of q) + from * widest ≤ minutes_of (last_of p) + to * widest
