use Rattle.std.proofs.Common.{◌∙◌, sym}
use Rattle.std.proofs.lemmas.List.Concat.{concat_is}
use Rattle.definitions.specs.Bytes.{zero_page}
use Rattle.std.specs.List.{concat}
use Rattle.image_format.proofs.SixNames.{front_is}
use Rattle.image_format.proofs.info.page_of_names.Goals as goal

pub returns-clause-bytes : goal.returns-clause-bytes
unfolding zero_page
returns-clause-bytes c =
    c.from_bytes.ensures.bytes
    ∙ front_is zero_page (concat c.args.names.now) c.copy_from_slice.new.self 390 (c.copy_from_slice.ensures.after ∙ c.as_flattened.ensures.value ∙ sym (concat_is c.args.names.now)) c.copy_from_slice.ensures.len
