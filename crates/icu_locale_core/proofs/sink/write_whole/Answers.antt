use Rattle.std.proofs.Common.{◌++◌, ◌∙◌, ap, sym, take, append_assoc}
use Rattle.std.proofs.lemmas.List.{take-append-drop}
use Rattle.std.proofs.KnownBytes.{Appends-trans}
use Rattle.icu_locale_core.proofs.sink.write_whole.Goals as goal

-- what the write took goes to the end of what is written
pub loop-rest-preserved : goal.loop-rest-preserved
loop-rest-preserved g c =
    let before = c.loop-rest.invariant in
    record {
      written = before.written ++ take c.in_ok-count.count c.loop-rest.rest.now;
      parted = before.parted ∙ ap (λ r. before.written ++ r) (sym (take-append-drop c.in_ok-count.count c.loop-rest.rest.now))
          ∙ sym (append_assoc before.written _ _) ∙ ap (λ r. (before.written ++ take c.in_ok-count.count c.loop-rest.rest.now) ++ r) (sym c.split_at.ensures.back);
      appended = Appends-trans (g.W.Write.contents c.args.sink.now) (g.W.Write.contents c.loop-rest.sink)
          (g.W.Write.contents c.write.new.self) before.written (take c.in_ok-count.count c.loop-rest.rest.now) before.appended c.in_ok-count.ensures.bytes;
    }
