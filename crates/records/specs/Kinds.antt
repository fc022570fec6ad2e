-- A record's numbers by its kind: how many forms the kind has, and which of the three numbers may be other than 0. Assumes nothing.
use Rattle.std.specs.Prelude.{ℕ, Bool, true, false, not, cond, [], ◌∷◌, eqb, ltb}
use Rattle.records.specs.Words.{row, look}

-- how many forms a kind has
abbrev pub forms_of : ℕ → ℕ
forms_of k =
    look k
    (row 1 1 ∷ row 2 1 ∷ row 3 10 ∷ row 4 3 ∷ row 5 1 ∷ row 6 2 ∷ row 7 2 ∷ row 8 2 ∷ row 9 1 ∷ row 10 4 ∷ row 11 1 ∷ [])
    0

-- whether the first number may be other than 0
abbrev pub has_first : ℕ → ℕ → Bool
has_first k f = look k (row 1 false ∷ row 2 false ∷ row 3 (ltb f 6) ∷ row 10 (not (eqb f 0)) ∷ []) true

-- the second
abbrev pub has_second : ℕ → ℕ → Bool
has_second k f = look k (row 3 (ltb f 6) ∷ row 6 true ∷ row 10 (not (eqb f 0)) ∷ []) false

-- the third
abbrev pub has_third : ℕ → ℕ → Bool
has_third k f = cond (eqb k 3) (ltb f 4) false

-- whether a record of a kind and form may have these numbers: the last that is not 0 says
abbrev pub may_have : ℕ → ℕ → ℕ → ℕ → ℕ → Bool
may_have k f a b c = cond (eqb c 0) (cond (eqb b 0) (cond (eqb a 0) true (has_first k f)) (has_second k f)) (has_third k f)
