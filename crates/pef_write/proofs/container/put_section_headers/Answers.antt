-- One more header is written, and at the end that of the loader section.
use Rattle.std.proofs.Common.{◌≡◌, ◌∙◌, ◌<◌, ◌≤◌, ◌++◌, append-nil, get_or, length, ap, arith}
use Rattle.std.specs.Int.{next_multiple_of}
use Rattle.std.proofs.lemmas.Result.{on_ok_weaker}
use Rattle.pef_write.specs.Fields.{spelled}
use Rattle.pef_write.specs.Containers.{loader_header, raw_of, section_fields, section_header, spelled_headers}
use Rattle.pef_write.proofs.Fields.{all_written, one_more}
use Rattle.pef_write.proofs.Containers.{length-raw_data-more, laid_out-more, laid_out-end, raw_data-end, sections-are}
use Rattle.pef_write.proofs.container.put_section_headers.Goals as goal

pub loop-section-preserved : goal.loop-section-preserved
loop-section-preserved c =
    let under : c.loop-section.section-index < length c.args.sections.now = omega arith in
    let more = length-raw_data-more c.args.sections.now c.args.loader.now c.loop-section.section-index c.section-item.result under in
    let raw = ap length (c.bytes.ensures.bytes ∙ ap raw_of c.section-item.is) in
    let at : c.next_multiple_of-at.result ≡ next_multiple_of (length (raw_of (get_or c.args.sections.now c.loop-section.section-index c.section-item.result))) 16 = c.next_multiple_of-at.ensures.value ∙ ap (λ n. next_multiple_of n 16) raw in
    let fields = c.section_fields.ensures ∙ ap section_fields (c.section_header.ensures ∙ ap (λ s. section_header s c.loop-section.at) c.section-item.is) in
    let split = laid_out-more c.loop-section.at c.args.sections.now c.args.loader.now c.loop-section.section-index c.section-item.result under in
    record {
      place = omega (arith, more, at, c.loop-section.invariant.place);
      headers = rw at (one_more c.loop-section.out.items _ _ _ _ _ (c.in_ok-put_fields.ensures ∙ ap (λ f. c.loop-section.out.items ++ spelled f) fields) split c.loop-section.invariant.headers);
    }

pub overflow_cast-loader : goal.overflow_cast-loader
overflow_cast-loader c =
    let past : length c.args.sections.now ≤ c.loop-section.section-index = omega arith in
    let end = ap length (raw_data-end c.args.sections.now c.args.loader.now c.loop-section.section-index past) in
    omega (arith, end, c.loop-section.invariant.place)

pub returns : goal.returns
returns c =
    let past : length c.args.sections.now ≤ c.loop-section.section-index = omega arith in
    let fields : c.section_fields-2.result ≡ section_fields (loader_header (length c.args.loader.now) c.loop-section.at) = c.section_fields-2.ensures ∙ ap section_fields c.loader_header.ensures in
    let split = laid_out-end c.loop-section.at c.args.sections.now c.args.loader.now c.loop-section.section-index past ∙ append-nil _ in
    on_ok_weaker c.put_fields-2.result (λ (written : c.put_fields-2.new.out.items ≡ c.loop-section.out.items ++ spelled c.section_fields-2.result). all_written c.loop-section.out.items _ _ _ _ (written ∙ ap (λ f. c.loop-section.out.items ++ spelled f) fields) split c.loop-section.invariant.headers ∙ ap (λ s. c.args.out.now.items ++ spelled_headers s) (sections-are c.args.sections.now c.args.loader.now)) c.put_fields-2.ensures
