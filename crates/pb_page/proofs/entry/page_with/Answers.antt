use Rattle.std.proofs.Common.{refl}
use Rattle.pb_page.proofs.Pages.{page-renders}
use Rattle.pb_page.proofs.entry.page_with.Goals as goal

pub returns : goal.returns
returns c =
    page-renders c.args.told _ _ _ c.whole_page-page.ensures.answer c.whole_page-page.ensures.sums
    c.whole_page-page.ensures.projects c.in_ok-into_text.ensures refl
