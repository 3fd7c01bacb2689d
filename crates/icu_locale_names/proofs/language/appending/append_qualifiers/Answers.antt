use Rattle.std.proofs.lemmas.Result.{err_from_is_err_and}
use Rattle.icu_locale_names.proofs.Appending.{grown_more, grown_by_joins, joins_more, adds_joined}
use Rattle.icu_locale_names.proofs.language.appending.append_qualifiers.Goals as goal

-- what follows the text is what the calls before put there, and what the one that is refused did
pub returns-in_err-script-clause-part : goal.returns-in_err-script-clause-part
returns-in_err-script-clause-part c =
    let refused = err_from_is_err_and c.from_residual-in_err-script.result c.from_residual-in_err-script.ensures.1 in
    rw refused.1 (grown_more _ _ _ (grown_by_joins _ _ _ _ _ _ c.in_ok-extension.ensures.joined) c.in_err-script.ensures.part)

pub returns-in_err-region-clause-part : goal.returns-in_err-region-clause-part
returns-in_err-region-clause-part c =
    let refused = err_from_is_err_and c.from_residual-in_err-region.result c.from_residual-in_err-region.ensures.1 in
    let one = grown_by_joins _ _ _ _ _ _ c.in_ok-extension.ensures.joined in
    let two = grown_by_joins _ _ _ _ _ _ c.in_ok-script.ensures.joined in
    rw refused.1 (grown_more _ _ _ one (grown_more _ _ _ two c.in_err-region.ensures.part))

pub returns-in_err-all-clause-part : goal.returns-in_err-all-clause-part
returns-in_err-all-clause-part c =
    let refused = err_from_is_err_and c.from_residual-in_err-all.result c.from_residual-in_err-all.ensures.1 in
    let one = grown_by_joins _ _ _ _ _ _ c.in_ok-extension.ensures.joined in
    let two = grown_by_joins _ _ _ _ _ _ c.in_ok-script.ensures.joined in
    let three = grown_by_joins _ _ _ _ _ _ c.in_ok-region.ensures.joined in
    rw refused.1 (grown_more _ _ _ one (grown_more _ _ _ two (grown_more _ _ _ three c.in_err-all.ensures.part)))

pub returns-clause-added : goal.returns-clause-added
returns-clause-added c =
    let two = joins_more _ _ _ _ _ _ _ _ _ c.in_ok-script.ensures.joined c.in_ok-region.ensures.joined in
    let three = joins_more _ _ _ _ _ _ _ _ _ c.in_ok-extension.ensures.joined two in
    let four = joins_more _ _ _ _ _ _ _ _ _ three c.in_ok-all.ensures.joined in
    adds_joined _ _ _ _ _ four
