use Rattle.std.specs.Prelude.{ℕ, ◌*◌, ◌≡◌, List, length}
use Rattle.std.proofs.lemmas.List.Edits.{sets}
use Rattle.std.proofs.Common.{rules, ap, sym, ◌∙◌}
use native.Mathlib.Omega.{arith}
use Rattle.steps.specs.declared.plan.Step.{Step}
use Rattle.ready.specs.Ready.{ReadyPhrase}
use Rattle.records.specs.Records.{encode_of}
use Rattle.fuzzydate.specs.Called.{ready_code, ready_after}
use Rattle.fuzzydate.proofs.ReadyNumbers.{ListMade, list_made, NoneMade, none_made}
use Rattle.fuzzydate.proofs.fuzzy_make_ready.Goals as goal
use Rattle.fuzzydate.proofs.fuzzy_make_ready.Goals.{In-Ok, In-Err}

-- what was made is a list
list_of : (c : In-Ok) → ListMade c.args.reading c.args.phrase.now c.in-Ok.plan
list_of c = list_made _ _ c.ready_in.ensures c.in-Ok.is

-- or a refusal
refusal_of : (c : In-Err) → NoneMade c.args.reading c.args.phrase.now c.in-Err.refusal
refusal_of c = none_made _ _ c.ready_in.ensures c.in-Err.is

pub encode-requires : goal.encode-requires
encode-requires c =
    let made = list_of (goal.at.encode-requires c).In-Ok in
    let room : length c.args.ready.now ≡ 384 = search rules in
    (omega (arith, made.count, made.few), omega (arith, made.count, made.few))

pub overflow_mul-result : goal.overflow_mul-result
overflow_mul-result c = let made = list_of (goal.at.overflow_mul-result c).In-Ok in omega (arith, made.count, made.few)

pub overflow_mul-result-in-Ok : goal.overflow_mul-result-in-Ok
overflow_mul-result-in-Ok c = let made = list_of (goal.at.overflow_mul-result-in-Ok c).In-Ok in omega (arith, made.count, made.few)

pub returns-in-Ok : goal.returns-in-Ok
returns-in-Ok c =
    let made = list_of (goal.at.returns-in-Ok c).In-Ok in
    let lent = c.args.ready.now in
    record {
      value = ap (λ (k : ℕ). 4294967296 * (16 * k)) made.count ∙ sym (ap ready_code made.is);
      ready_after = c.encode.ensures ∙ ap (λ (ss : List Step). sets lent 0 (encode_of ss)) made.plan
          ∙ sym (ap (λ (w : ReadyPhrase). ready_after w lent) made.is);
    }

pub code-requires : goal.code-requires
code-requires c = (refusal_of (goal.at.code-requires c).In-Err).part

pub returns-in-Err : goal.returns-in-Err
returns-in-Err c =
    let none = refusal_of (goal.at.returns-in-Err c).In-Err in
    record { value = rw none.is c.code.ensures; ready_after = rw none.is (search rules) }
