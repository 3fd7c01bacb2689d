use Rattle.std.proofs.Common.{◌≡◌, length, refl, sym, ap}
use Rattle.std.proofs.lemmas.Option.{slice_get_read}
use Rattle.icu_provider.specs.declared.data_locale.DataLocale.{DataLocale}
use Rattle.icu_locale.specs.LikelyTable.{likely}
use Rattle.icu_locale_matching.specs.inner.Made.{in_form}
use Rattle.icu_locale_matching.specs.inner.Asked.{asked_of}
use Rattle.icu_locale_matching.proofs.Spelled.{formed_at}
use Rattle.icu_locale_matching.proofs.search.Search.formed_first.Goals as goal

language : {x y : DataLocale} → x ≡ y → x.language ≡ y.language
language same = ap (λ (f : DataLocale). f.language) same

script : {x y : DataLocale} → x ≡ y → x.script ≡ y.script
script same = ap (λ (f : DataLocale). f.script) same

region : {x y : DataLocale} → x ≡ y → x.region ≡ y.region
region same = ap (λ (f : DataLocale). f.region) same

-- it is the first place that is noted
pub returns-in-Some-clause-first : goal.returns-in-Some-clause-first
returns-in-Some-clause-first c =
    let m = c.args.self.now in
    let xs = c.args.requests.now in
    let x = c.request-item.result in
    let form = sym c.form_of.ensures in
    let stands = slice_get_read xs (length xs) 0 x refl c.in-len1-up.len_at_least c.request-item.is in
    formed_at (asked_of m xs) x c.in-Some.place m.candidates.now.spelled m.candidates.now.formed c.served_at.result stands c.requires.spelled c.requires.formed
    (c.is_unspelled.ensures.plain c.if-not-is_unspelled.false) (c.is_unspelled.ensures.none c.if-not-is_unspelled.false)
    (sym (c.in-Some.ensures (in_form (likely m.expander) x) (language form) (script form) (region form))) c.served_at.ensures
