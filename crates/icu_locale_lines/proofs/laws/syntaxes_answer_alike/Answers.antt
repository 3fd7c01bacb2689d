use Rattle.icu_locale_lines.proofs.Alike.{SyntaxFacts, answers_alike}
use Rattle.icu_locale_lines.proofs.Offers.{offered_once, shown_alike}
use Rattle.icu_locale_lines.proofs.PlainLines.{plain_answers_alike}
use Rattle.icu_locale_lines.proofs.laws.syntaxes_answer_alike.Goals as goal

pub returns : goal.returns
returns c =
    let facts : SyntaxFacts = record {
      spelling = record {
        alone = c.spelled_once.ensures;
        read = c.spelled_is_read.ensures;
        faults = c.reading_is_by_the_grammar.ensures.faults;
      };
      known = c.identifiers_read_alike.ensures.known;
      alike = c.identifiers_read_alike.ensures.alike;
      plain = c.plain_texts_read_alike.ensures.spelled;
      language = c.refusals_are_faults.ensures.language;
      memory = c.refusals_are_faults.ensures.memory;
      one = c.whole_form_is_one.ensures.one;
      kept = c.identifiers_keep_their_names.ensures;
    } in
    record {
      alike = λ work s line text a holds. answers_alike facts s line text a work holds;
      plain = λ work line text a holds. plain_answers_alike facts line text a work holds;
      offered = λ s line xs ys ws vs alone whole. (offered_once facts s line xs ys ws vs alone whole, shown_alike facts s line xs ys ws vs alone whole);
    }
