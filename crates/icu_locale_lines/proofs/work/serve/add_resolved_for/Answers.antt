use Rattle.std.proofs.Common.{Some, ap, subst, ◌∙◌, ◌<◌, length, refl, get_or, ◌≡◌}
use Rattle.std.proofs.lemmas.List.{length-map}
use Rattle.std.proofs.lemmas.Option.{slice_get_read}
use Rattle.icu_locale_matching.specs.Service.{IsNearestTo}
use Rattle.icu_locale_lines.specs.Lists.{ids_of}
use Rattle.icu_locale_lines.proofs.LineAnswers.{if_adds}
use Rattle.icu_locale_lines.proofs.work.serve.add_resolved_for.Goals as goal

-- the nearest for what is wanted, resolved
pub returns-in-Ok-Some-clause-answer : goal.returns-in-Ok-Some-clause-answer
returns-in-Ok-Some-clause-answer c =
    let s = c.args.server.now in
    let wanted = c.args.wanted.now.items in
    let found = c.in-Ok-Some.found in
    let near : IsNearestTo s (ids_of wanted) (Some found) =
    subst (λ xs. IsNearestTo s xs (Some found)) (c.deref-2.ensures.value ∙ c.in-Ok.ensures.same ∙ ap ids_of c.deref.ensures.value)
    (subst (IsNearestTo s c.deref-2.result.now) c.in-Ok-Some.field-0-is c.in-Ok-Some.ensures) in
    let available = c.what_is_served_is_available.ensures.requests s (ids_of wanted) found near in
    let asked : found.request < length wanted =
    subst (λ n. found.request < n) (length-map wanted _) (c.what_is_served_is_available.ensures.asked s (ids_of wanted) found near) in
    let served = slice_get_read s.available (length s.available) found.available c.index-available-found.result refl available
    (subst (λ xs. c.index-available-found.result ≡ get_or xs found.available c.index-available-found.result) c.available.ensures c.index-available-found.is) in
    let own = slice_get_read wanted (length wanted) found.request c.index_mut.result.now refl asked c.index_mut.ensures.value in
    if_adds _ _ (λ t a h. (Some found, near, (c.index-available-found.result, served, c.index_mut.result.now, own, h.0), h.1)) _ _
    c.add_own.result c.add_own.ensures.answer
