use Rattle.std.proofs.Common.{◌++◌, ap, sym, ◌∙◌, subst, append_assoc}
use Rattle.icu_locale_core.specs.Identifier.{written}
use Rattle.icu_locale_core.specs.laws.TextSinks.{after_call, on_err}
use Rattle.icu_locale_fallback.specs.Chains.{inheritance}
use Rattle.icu_locale_fallback.specs.inner.Listing.{behind_space, IsRestWritten}
use Rattle.icu_locale_fallback.proofs.Texts.{on_ok, IsWritten-bare, IsWritten-behind}
use Rattle.icu_locale_fallback.proofs.identifiers.IdentifierFallbackIterator.append_all.Goals as goal

-- without variants the identifier is the first of the chain
pub returns-then-len-eq0-clause-appended : goal.returns-then-len-eq0-clause-appended
returns-then-len-eq0-clause-appended c =
    let by = inheritance c.args.self.now.fallbacker c.args.self.now.config.priority in
    on_ok c.append_rest.result (λ rest. IsWritten-bare by c.args.self.now.current c.args.text.now.items c.append_to.new.text.items
    c.append_rest.new.text.items (sym c.len.ensures ∙ c.if-len-eq0.true) c.in_ok-append_to.ensures.appended
    (subst (λ y. IsRestWritten by y c.append_to.new.text.items c.append_rest.new.text.items) c.requires.start rest)) c.append_rest.ensures.appended

pub returns-then-len-eq0-clause-part : goal.returns-then-len-eq0-clause-part
returns-then-len-eq0-clause-part c =
    after_call c.append_rest.result c.args.text.now.items (written c.args.self.now.current) c.append_to.new.text.items c.append_rest.new.text.items
    c.in_ok-append_to.ensures.appended c.append_rest.ensures.part

pub returns-in_err-append_locale-clause-part : goal.returns-in_err-append_locale-clause-part
returns-in_err-append_locale-clause-part c =
    after_call _ c.args.text.now.items (written c.args.self.now.current) c.append_to.new.text.items c.append_locale.new.text.items
    c.in_ok-append_to.ensures.appended (on_err _ c.in_err-append_locale.ensures.part)

-- with variants the chain goes on after it
pub returns-clause-appended : goal.returns-clause-appended
returns-clause-appended c =
    let by = inheritance c.args.self.now.fallbacker c.args.self.now.config.priority in
    on_ok c.append_rest-2.result (λ rest. IsWritten-behind by c.args.self.now.current c.args.text.now.items c.append_to.new.text.items
    c.append_locale.new.text.items c.append_rest-2.new.text.items
    (λ none. c.if-len-eq0.false (c.len.ensures ∙ none)) c.in_ok-append_to.ensures.appended
    (c.in_ok-append_locale.ensures.appended ∙ ap (λ y. c.append_to.new.text.items ++ behind_space y) c.requires.start)
    (subst (λ y. IsRestWritten by y c.append_locale.new.text.items c.append_rest-2.new.text.items) c.requires.start rest)) c.append_rest-2.ensures.appended

pub returns-clause-part : goal.returns-clause-part
returns-clause-part c =
    let space = behind_space c.args.start.now in
    after_call c.append_rest-2.result c.args.text.now.items (written c.args.self.now.current ++ space) c.append_locale.new.text.items c.append_rest-2.new.text.items
    (c.in_ok-append_locale.ensures.appended ∙ (ap (λ t. t ++ space) c.in_ok-append_to.ensures.appended
    ∙ append_assoc c.args.text.now.items (written c.args.self.now.current) space)) c.append_rest-2.ensures.part
