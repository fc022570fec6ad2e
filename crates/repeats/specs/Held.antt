-- The numbers of a stretch at which a test holds: listed, counted, and the first of them.
use Rattle.std.specs.Prelude.{ℕ, zero, suc, ◌-◌, ◌≤◌, ◌<◌, ◌≡◌, Bool, true, false, List, ◌∷◌, []}

-- n in front of l where the test holds
abbrev pub keep : Bool → ℕ → List ℕ → List ℕ
keep true n l = n ∷ l
keep false n l = l

-- those of the k numbers from b on at which P holds, in order
unfoldable pub held : (ℕ → Bool) → ℕ → ℕ → List ℕ
held P b zero = []
held P b (suc k) = keep (P b) b (held P (suc b) k)

-- those from b on below c
abbrev pub between : (ℕ → Bool) → ℕ → ℕ → List ℕ
between P b c = held P b (c - b)

-- 1 where a test holds
abbrev pub one : Bool → ℕ
one true = 1
one false = 0

-- the first of the k numbers from b on at which P holds, else b + k
unfoldable pub seek : (ℕ → Bool) → ℕ → ℕ → ℕ
seek P b zero = b
seek P b (suc k) = elim (P b) [ true ↦ b | false ↦ seek P (suc b) k ]

-- n is the least number from b on at which P holds
pub record First (P : ℕ → Bool) (b n : ℕ) : Type 0 where
  pub reached : b ≤ n
  pub holds : P n ≡ true
  pub none : (k : ℕ) → b ≤ k → k < n → P k ≡ false
