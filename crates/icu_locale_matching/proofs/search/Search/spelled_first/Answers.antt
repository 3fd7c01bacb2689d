use Rattle.std.proofs.Common.{length, refl}
use Rattle.std.proofs.lemmas.Option.{slice_get_read}
use Rattle.icu_locale_matching.specs.inner.Asked.{asked_of}
use Rattle.icu_locale_matching.proofs.Spelled.{spelled_at}
use Rattle.icu_locale_matching.proofs.search.Search.spelled_first.Goals as goal

-- it is the first place that is noted
pub returns-in-Some-clause-first : goal.returns-in-Some-clause-first
returns-in-Some-clause-first c =
    let xs = c.args.requests.now in
    let x = c.request-item.result in
    let stands = slice_get_read xs (length xs) 0 x refl c.in-len1-up.len_at_least c.request-item.is in
    spelled_at (asked_of c.args.self.now xs) x c.in-Some.place c.args.self.now.candidates.now.spelled c.served_at.result
    stands c.requires.spelled c.in-Some.ensures.plain c.in-Some.ensures.noted c.served_at.ensures
