use Rattle.std.proofs.Common.{[], ◌∷◌, Option, Some, None, IfNone, subst, arith}
use Rattle.std.specs.List.{All}
use Rattle.icu_locale.specs.LikelyTable.{likely}
use Rattle.uses.specs.Meaning.{NoneMeans}
use Rattle.uses.proofs.switcher.find_meaning.Goals as goal

-- what holds of each of one holds of it
of_one : {X Y : Type 0} (P : X → Type 0) (x : X) (r : Option Y) → IfNone r (All P (x ∷ [])) → IfNone r (P x)
of_one P x None h = h 0 x (omega arith)
of_one P x (Some y) h = tt

pub returns-clause-none : goal.returns-clause-none
returns-clause-none c =
    let asked = NoneMeans (likely c.args.negotiator.now.expander) c.args.negotiator.now.available in
    of_one asked c.args.request.now c.find_served.result (subst (λ xs. IfNone c.find_served.result (All asked xs)) c.from_ref.ensures.value
    c.find_served.ensures.none)
