-- The clauses that are left give the same first pair as all.
use Rattle.std.proofs.Common.{◌≡◌, false, true, refl, sym, ◌∙◌, Option, None, Some}
use Rattle.std.specs.Prelude.{is_some}
use Rattle.general.specs.Booleans.{true_not_false}
use Rattle.propagate.specs.Partners.{first_partner}
use Rattle.propagate.proofs.Scanning.{partner_ahead, pair_asks, pair_passes, pair_end}
use Rattle.propagate.proofs.Partners.{alone_none, noted_more}
use Rattle.propagate.proofs.first_pair.Goals as goal
use Rattle.propagate.proofs.first_pair.Goals.{After-first_partner-found}

-- what was found is the first partner of the clause that was passed
found : (c : After-first_partner-found) → let s = c.loop-g.clauses in
    c.first_partner-found.result ≡ first_partner c.args.standing.table.now c.args.standing.state.now.values c.args.rule s.clause.0 c.in-Some.g
found c = rw (← c.loop-g.invariant.of) (c.first_partner-found.ensures ∙ partner_ahead c.in-Some.ensures.steps c.args.rule)

pub loop-g-preserved-then-alone-g : goal.loop-g-preserved-then-alone-g
loop-g-preserved-then-alone-g c =
    let k = c.loop-g.invariant in
    let p = c.in-Some.ensures.steps in
    record {
      of = p.same ∙ k.of;
      same = pair_passes p c.args.rule (rw k.of (alone_none _ _ c.args.rule _ c.in-Some.g (k.noted.alone c.in-Some.g c.if-alone-g.true))) ∙ k.same;
      noted = k.noted;
    }

some : {A : Type 0} (o : Option A) → is_some o ≡ true → (x : A) × (o ≡ Some x)
some None e = absurd (true_not_false e refl)
some (Some x) e = (x, refl)

nothing : {A : Type 0} (o : Option A) → is_some o ≡ false → o ≡ None
nothing None e = refl
nothing (Some x) e = absurd (true_not_false refl e)

pub returns-then-is_some-clause-says : goal.returns-then-is_some-clause-says
returns-then-is_some-clause-says c =
    let k = c.loop-g.invariant in
    let w = some c.first_partner-found.result (sym c.is_some.ensures ∙ c.if-is_some.true) in
    w.1 ∙ pair_asks c.in-Some.ensures.steps c.args.rule (rw k.of (sym w.1 ∙ found (goal.at.returns-then-is_some-clause-says c).After-first_partner-found)) ∙ k.same

pub loop-g-preserved : goal.loop-g-preserved
loop-g-preserved c =
    let k = c.loop-g.invariant in
    let p = c.in-Some.ensures.steps in
    let n = sym (nothing c.first_partner-found.result (sym c.is_some.ensures ∙ c.if-is_some.false)) ∙ found (goal.at.loop-g-preserved c).After-first_partner-found in
    record {
      of = p.same ∙ k.of;
      same = pair_passes p c.args.rule (rw k.of n) ∙ k.same;
      noted = noted_more _ _ c.args.rule k.noted c.loop-g.clauses.clause.0 c.in-Some.g n;
    }

pub returns-clause-says : goal.returns-clause-says
returns-clause-says c = pair_end c.loop-g.clauses c.in_default.ensures.steps c.args.rule ∙ c.loop-g.invariant.same
