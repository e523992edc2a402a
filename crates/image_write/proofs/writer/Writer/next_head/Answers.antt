use Rattle.std.proofs.Common.{◌≡◌, [], get_or, option_copied, subst}
use Rattle.definitions.specs.NumberPages.{marked_numbers}
use Rattle.frame_sets.specs.Places.{members_in}
use Rattle.plain_machine.specs.Image.{stream_pages}
use Rattle.plain_machine.specs.Image.{page_of_write}
use Rattle.image_write.specs.Writing.{Writing}
use Rattle.image_write.proofs.writer.Writer.next_head.Goals as goal

pub returns : goal.returns
returns c saved =
    let numbers = marked_numbers c.args.sets.now.origs.now.members (members_in (option_copied c.args.sets.now.zeros)) in
    subst (λ (v : Writing). c.head_page.result ≡ get_or (stream_pages v.info numbers saved) (page_of_write v.written) []) c.self.view_is (c.head_page.ensures saved)
