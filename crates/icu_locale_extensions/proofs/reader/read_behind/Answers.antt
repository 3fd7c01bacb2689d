use Rattle.std.proofs.Common.{rules, ◌≡◌, [], ◌∷◌, Err, IfOk, ap, sym, subst, inl, inr, ◌∙◌}
use Rattle.icu_locale_extensions.specs.Locales.{IsLocaleIdentifier}
use Rattle.icu_locale_extensions.specs.laws.Reader.{read_on}
use Rattle.icu_locale_extensions.specs.laws.Reader.Part.{whole}
use Rattle.icu_locale_extensions.specs.inner.Takes.{IsEnd}
use Rattle.icu_locale_extensions.proofs.Taking.{end_both, end_none, handed_memory, kept_behind}
use Rattle.icu_locale_extensions.proofs.Whole.{same_err}
use Rattle.icu_locale_extensions.proofs.reader.read_behind.Goals as goal

pub marks-init : goal.marks-init
marks-init c = record {
  read = search rules;
  rest = end_none _;
}

pub marks-preserved : goal.marks-preserved
marks-preserved c =
    let one : c.marks.pieces ≡ c.in-Some.mark.now ∷ c.next.new.self = search rules in
    record {
      read = search rules;
      rest = end_both c.take_extension.new.pieces c.next.new.self c.args.pieces c.in_ok-take_extension.ensures.rest
          (end_both c.next.new.self c.marks.pieces c.args.pieces (record { own = c.in-Some.mark.now ∷ []; parts = one }) c.marks.invariant.rest);
    }

pub returns-in_err-take_extension : goal.returns-in_err-take_extension
returns-in_err-take_extension c =
    let f = c.in_err-take_extension.field-0.0 in
    let one : c.marks.pieces ≡ c.in-Some.mark.now ∷ c.next.new.self = search rules in
    let is = same_err c.from_residual.result f c.from_residual.ensures.0 c.from_residual.ensures.1 in
    record {
      read = elim c.in_err-take_extension.ensures.read [
        | inl memory ↦ inl (is ∙ ap Err memory)
        | inr refused ↦ inr (is ∙ sym (c.marks.invariant.read ∙ ap (read_on whole [] c.marks.x) one ∙ refused))
      ];
      known = subst (λ r. IfOk r IsLocaleIdentifier) (sym is) tt;
      memory = λ m.
          let handed = handed_memory c.from_residual.result c.take_extension.result f c.from_residual.ensures.0 c.from_residual.ensures.1 c.in_err-take_extension.was m in
          kept_behind c.in-Some.mark.now c.next.new.self c.args.pieces (subst (λ ps. IsEnd ps c.args.pieces) one c.marks.invariant.rest)
          (c.take_extension.ensures.marked handed) (c.take_extension.ensures.memory handed);
    }
