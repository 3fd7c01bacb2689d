use Rattle.std.proofs.Common.{◌≡◌, ◌∙◌, ap, sym, subst, rules, ◌++◌, ◌∷◌, [], false, OnOk, map, string_bytes, encode_utf8_all, encode_utf8, append_assoc, append-nil}
use Rattle.std.specs.List.{list_any}
use Rattle.std.proofs.lemmas.Iterator.{YieldsList-from_chars}
use Rattle.std.proofs.lemmas.Iterator.Consumers.{YieldsList-end}
use Rattle.std.proofs.lemmas.List.{map-append, map-id}
use Rattle.std.proofs.lemmas.Str.{encodes-append}
use Rattle.icu_locale_full_names.specs.Squares.{square}
use Rattle.icu_locale_full_names.specs.inner.Brackets.{may_begin_bracket}
use Rattle.icu_locale_full_names.proofs.Unbracketed.{square_text-other}
use Rattle.icu_locale_full_names.proofs.draft.push_square.Goals as goal

pub loop-c-preserved : goal.loop-c-preserved
loop-c-preserved c =
    let old = string_bytes c.args.text.now in
    let seen = map square c.loop-c.yielded in
    let one = square c.in-Some.c ∷ [] in
    c.in_ok-push.ensures.bytes
    ∙ ap (λ t. string_bytes c.loop-c.text ++ t) (ap encode_utf8 c.square.ensures ∙ sym (append-nil (encode_utf8 (square c.in-Some.c))))
    ∙ ap (λ t. t ++ encode_utf8_all one) c.loop-c.invariant
    ∙ append_assoc old (encode_utf8_all seen) (encode_utf8_all one)
    ∙ ap (λ t. old ++ t) (sym (encodes-append seen one) ∙ ap encode_utf8_all (sym (map-append square c.loop-c.yielded (c.in-Some.c ∷ []))))

pub returns : goal.returns
returns c =
    let t = YieldsList-end (YieldsList-from_chars c.args.more.now c.utf8.more cc) c.loop-c.yielded _ c.loop-c.yielded_by _ _ c.in-None.is c.next.ensures.steps in
    c.loop-c.invariant ∙ ap (λ cs. string_bytes c.args.text.now ++ encode_utf8_all (map square cs)) (sym (map-id c.loop-c.yielded) ∙ t.0)

-- the text has no bracket
pub returns-then-not-may_have_bracket : goal.returns-then-not-may_have_bracket
returns-then-not-may_have_bracket c =
    let none : list_any may_begin_bracket c.args.more.now ≡ false = search rules in
    let pushed : OnOk c.push_str.result (string_bytes c.push_str.new.self ≡ string_bytes c.args.text.now ++ c.args.more.now) = search rules in
    subst (λ t. OnOk c.push_str.result (string_bytes c.push_str.new.self ≡ string_bytes c.args.text.now ++ t))
    (sym (square_text-other c.args.more.now c.utf8.more none)) pushed
