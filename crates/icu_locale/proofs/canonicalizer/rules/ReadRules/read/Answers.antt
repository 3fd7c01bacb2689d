use Rattle.std.proofs.Common.{subst}
use Rattle.icu_locale.specs.Rules.{AreRead, ReadsLanguage, ReadsSubdivision}
use Rattle.icu_locale.proofs.Readings.{IsSortedMap-from_read}
use Rattle.icu_locale.proofs.canonicalizer.rules.ReadRules.read.Goals as goal

pub try_from_sorted-requires : goal.try_from_sorted-requires
try_from_sorted-requires c =
    let rows = c.args.aliases.now.language_len2 in
    let kept = c.in_ok-language_len2.language_len2.items in
    IsSortedMap-from_read ReadsLanguage (λ row k read. read.key) rows kept (subst
    (λ rs. AreRead ReadsLanguage rs kept) c.as_slice-3.ensures.rows c.in_ok-language_len2.ensures.read) c.as_slice-3.ensures.sorted

pub try_from_sorted-requires-2 : goal.try_from_sorted-requires-2
try_from_sorted-requires-2 c =
    let rows = c.args.aliases.now.language_len3 in
    let kept = c.in_ok-language_len3.language_len3.items in
    IsSortedMap-from_read ReadsLanguage (λ row k read. read.key) rows kept (subst
    (λ rs. AreRead ReadsLanguage rs kept) c.as_slice-4.ensures.rows c.in_ok-language_len3.ensures.read) c.as_slice-4.ensures.sorted

pub try_from_sorted-requires-3 : goal.try_from_sorted-requires-3
try_from_sorted-requires-3 c =
    let rows = c.args.aliases.now.subdivision in
    let kept = c.in_ok-subdivision.subdivision.items in
    IsSortedMap-from_read ReadsSubdivision (λ row k read. read.key) rows kept
    (subst (λ rs. AreRead ReadsSubdivision rs kept) c.as_slice-5.ensures.rows c.in_ok-subdivision.ensures.read) c.as_slice-5.ensures.sorted
