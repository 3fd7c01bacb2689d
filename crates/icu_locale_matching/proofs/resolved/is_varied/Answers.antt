use Rattle.std.proofs.Common.{ap}
use Rattle.std.specs.Prelude.{not}
use Rattle.icu_locale_core.specs.TextSet.{empty}
use Rattle.icu_locale_matching.proofs.Resolving.{told_alike}
use Rattle.icu_locale_core.specs.laws.Identifiers.{same_texts, sets_tell}
use Rattle.icu_locale_matching.proofs.resolved.is_varied.Goals as goal

pub returns : goal.returns
returns c =
    let v = c.args.id.now.variants in
    ap not (told_alike c.is_empty.result (same_texts v empty) c.is_empty.ensures (sets_tell v empty))
