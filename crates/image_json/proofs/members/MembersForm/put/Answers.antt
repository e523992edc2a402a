use Rattle.std.proofs.Common.{string_bytes}
use Rattle.image_json.proofs.Ended.{put_front}
use Rattle.image_json.proofs.members.MembersForm.put.Goals as goal

pub returns-in-Ok-clause-front : goal.returns-in-Ok-clause-front
returns-in-Ok-clause-front c =
    put_front c.args.self.now.last c.args.fact.now (string_bytes c.args.self.now.text) (string_bytes c.push_piece.new.text) c.in-Ok.ensures.added
