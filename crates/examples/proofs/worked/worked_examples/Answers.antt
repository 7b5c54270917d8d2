use Rattle.std.proofs.Common.{refl, arith}
use Rattle.book_file.specs.Numbers.{number_bytes}
use Rattle.play.specs.declared.verdict.Verdict.TheVariants.{Accepted, Silent, Torn, Broken}
use Rattle.examples.proofs.Books.{file_says, whole_rows, whole_accepted, silent_rows, silent_found, torn_rows, torn_found, broken_rows, broken_found}
use Rattle.examples.proofs.Claims.{counted, settled, none_found, judged}
use Rattle.examples.proofs.Only.{counted_only, settled_only, refused_only, judged_only}
use Rattle.examples.proofs.SiteF.{site_f, prefix_f, read_f, winnable_f, choices_f, choices_made}
use Rattle.examples.proofs.Others.{report_first, report_first_prefix, read_report_first, report_last, report_last_prefix, read_report_last, none_wins_last, empty_term, empty_term_prefix, read_empty_term, number_128, other_number, not_read, unread_only}
use Rattle.examples.proofs.worked.worked_examples.Goals as goal

pub returns-clause-holds : goal.returns-clause-holds
unfolding number_bytes
returns-clause-holds c = (
  settled _ site_f prefix_f read_f refl 1 choices_f refl choices_made,
  (
    judged _ site_f prefix_f read_f refl _ Accepted whole_rows (file_says _ whole_rows refl refl (omega arith)) whole_accepted,
    (
      judged _ site_f prefix_f read_f refl _ (Silent 4 2) silent_rows (file_says _ silent_rows refl refl (omega arith)) silent_found,
      (
        judged _ site_f prefix_f read_f refl _ (Torn 4 1) torn_rows (file_says _ torn_rows refl refl (omega arith)) torn_found,
        (
          judged _ site_f prefix_f read_f refl _ (Broken 2) broken_rows (file_says _ broken_rows refl refl (omega arith)) broken_found,
          (
            counted _ report_first report_first_prefix read_report_first refl 3 refl,
            (
              none_found _ report_last report_last_prefix read_report_last refl none_wins_last,
              (
                counted _ empty_term empty_term_prefix read_empty_term refl 2 refl,
                (
                  number_128,
                  (
                    not_read,
                    tt,
                  ),
                ),
              ),
            ),
          ),
        ),
      ),
    ),
  ),
)

pub returns-clause-only : goal.returns-clause-only
unfolding number_bytes
returns-clause-only c = (
  settled_only _ site_f prefix_f read_f refl 1 choices_f refl winnable_f choices_made,
  (
    judged_only _ site_f prefix_f read_f refl _ whole_rows (file_says _ whole_rows refl refl (omega arith)) Accepted whole_accepted,
    (
      judged_only _ site_f prefix_f read_f refl _ silent_rows (file_says _ silent_rows refl refl (omega arith)) (Silent 4 2) silent_found,
      (
        judged_only _ site_f prefix_f read_f refl _ torn_rows (file_says _ torn_rows refl refl (omega arith)) (Torn 4 1) torn_found,
        (
          judged_only _ site_f prefix_f read_f refl _ broken_rows (file_says _ broken_rows refl refl (omega arith)) (Broken 2) broken_found,
          (
            counted_only _ report_first report_first_prefix read_report_first refl 3 refl,
            (
              refused_only _ report_last report_last_prefix read_report_last refl none_wins_last,
              (
                counted_only _ empty_term empty_term_prefix read_empty_term refl 2 refl,
                (
                  other_number,
                  (
                    unread_only,
                    tt,
                  ),
                ),
              ),
            ),
          ),
        ),
      ),
    ),
  ),
)
