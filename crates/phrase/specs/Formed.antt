-- A chain whose durations all have parts that are there, as the chain of every tree that is read does (`formed`).
use Rattle.std.specs.Prelude.{ℕ, ◌≤◌, ◌<◌, ◌≡◌, true, get_or}
use Rattle.phrase.specs.Chains.{blank_link}
use Rattle.phrase.specs.Outlines.{has_own}
use Rattle.phrase.specs.declared.chain.Chain.{Chain}

-- at most 21 parts and links, and no duration without a part
pub record Formed (r : Chain) : Type 0 where
  pub parts : r.parts.n ≤ 21
  pub links : r.m ≤ 21
  pub own : has_own r.base ≡ true → r.own < r.parts.n
  pub from_to : (k : ℕ) → k < r.m → (get_or r.links k blank_link).from < (get_or r.links k blank_link).to
  pub to_most : (k : ℕ) → k < r.m → (get_or r.links k blank_link).to ≤ 21
