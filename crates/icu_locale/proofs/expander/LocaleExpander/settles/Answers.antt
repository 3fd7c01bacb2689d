use Rattle.std.proofs.Common.{◌∙◌, ap}
use Rattle.icu_locale.specs.LikelySubtags.{maximal_locale}
use Rattle.icu_locale.specs.LikelyTable.{likely}
use Rattle.icu_locale.specs.inner.SettledRows.{key_locale}
use Rattle.icu_locale.proofs.Settling.{told}
use Rattle.icu_locale.proofs.expander.LocaleExpander.settles.Goals as goal

-- the test of the maximal form of the key's own subtags
pub returns : goal.returns
returns g c =
    let own = c.key_locale.ensures ∙ ap key_locale c.key-key.ensures.value in
    told _ (g.K.RowKey.key c.args.key.now) c.maximal_locale-maximal.result c.key-key.ensures.known
    (c.maximal_locale-maximal.ensures ∙ ap (maximal_locale (likely c.args.self.now)) own) c.is_settled_locale.result c.is_settled_locale.ensures
