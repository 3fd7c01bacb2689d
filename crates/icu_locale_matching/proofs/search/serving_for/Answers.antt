use Rattle.std.proofs.Common.{◌≡◌, List, sym, ◌∙◌, subst}
use Rattle.std.proofs.lemmas.Slice.Eq.{bytes_eq-Decides}
use Rattle.icu_locale_matching.specs.Distance.{levels_for}
use Rattle.icu_locale_matching.specs.inner.Known.{AreServing}
use Rattle.icu_locale_matching.proofs.Firsts.{all_serving}
use Rattle.icu_locale_matching.proofs.search.serving_for.Goals as goal

pub returns-then-eq : goal.returns-then-eq
returns-then-eq c = λ t marked.
    let d = c.args.candidate.now in
    let own = (levels_for t d.form.language).region.rules in
    let same : d.form.language ≡ c.args.form.now.language = (bytes_eq-Decides d.form.language c.args.form.now.language).0 (sym c.eq.ensures ∙ c.if-eq.true) in
    let known : AreServing own d.form d.serving = subst (AreServing own d.form) (sym marked) (all_serving own d.form) in
    subst (λ (l : List _). AreServing (levels_for t l).region.rules d.form d.serving) same known
