-- The lines one by one.
use Rattle.std.proofs.Common.{◌≡◌, ◌+◌, ◌++◌, ◌∙◌, ℕ, List, drop, length, refl, sym, take}
use Rattle.pef_ports.specs.Text.{dump_text, row_text}
use Rattle.pef_ports.proofs.Laws.Sending.{Sends-short, Sends-then, StopsShort-longer}
use Rattle.pef_ports.proofs.TextLemmas.{dump_text-four}
use Rattle.pef_ports.proofs.dump.print_four.Goals as goal

whole : (at : ℕ) (bytes first rest second others third fourth a b c d : List ℕ) → length bytes ≡ 64
    → first ≡ take 16 bytes → rest ≡ drop 16 bytes → second ≡ take 16 rest → others ≡ drop 16 rest → third ≡ take 16 others → fourth ≡ drop 16 others
    → a ≡ row_text at first → b ≡ row_text (at + 16) second → c ≡ row_text (at + 16 + 16) third → d ≡ row_text (at + 16 + 16 + 16) fourth
    → dump_text at bytes ≡ (a ++ b) ++ (c ++ d)
whole at bytes first rest second others third fourth a b c d full is_first is_rest is_second is_others is_third is_fourth is_a is_b is_c is_d =
    dump_text-four at bytes full ∙ sym (rw (is_a, is_b, is_c, is_d, is_third, is_fourth, is_others, is_second, is_first, is_rest) refl)

pub returns-in_err-send_both : goal.returns-in_err-send_both
returns-in_err-send_both g c =
    let all = whole c.args.address c.args.bytes.now _ _ _ _ _ _ _ _ _ _ c.requires.rows c.split_at.ensures.front c.split_at.ensures.back c.split_at-2.ensures.front c.split_at-2.ensures.back c.split_at-3.ensures.front c.split_at-3.ensures.back c.full_row-a.ensures c.full_row-b.ensures c.full_row-c.ensures c.full_row-d.ensures in
    rw all (Sends-short _ c.from_residual.result _ c.from_residual.ensures.1 (StopsShort-longer (c.full_row-c.result ++ c.full_row-d.result) c.in_err-send_both.ensures))

pub returns : goal.returns
returns g c =
    let all = whole c.args.address c.args.bytes.now _ _ _ _ _ _ _ _ _ _ c.requires.rows c.split_at.ensures.front c.split_at.ensures.back c.split_at-2.ensures.front c.split_at-2.ensures.back c.split_at-3.ensures.front c.split_at-3.ensures.back c.full_row-a.ensures c.full_row-b.ensures c.full_row-c.ensures c.full_row-d.ensures in
    rw all (Sends-then c.send_both-2.result _ _ (c.full_row-c.result ++ c.full_row-d.result) c.in_ok-send_both.ensures c.send_both-2.ensures)
