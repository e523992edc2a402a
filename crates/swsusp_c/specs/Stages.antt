-- The numbers of the stages.
use Rattle.std.specs.Prelude.{ℕ, ◌==◌, Option, Some, None, if◌then◌else◌}
use Rattle.boot_resume.specs.declared.stage.Stage.{Stage}
use Rattle.boot_resume.specs.declared.stage.Stage.TheVariants as stage

abbrev pub stage_code : Stage → ℕ
stage_code stage.FirstSync = 1
stage_code stage.Header = 2
stage_code stage.TakeBack = 3
stage_code stage.SettleBack = 4
stage_code stage.ListMap = 5
stage_code stage.ListPage = 6
stage_code stage.NumberMap = 7
stage_code stage.NumberPage = 8
stage_code stage.DataMap = 9
stage_code stage.DataPage = 10
stage_code stage.Place = 11
stage_code stage.Ended = 12

abbrev pub stage_of : ℕ → Option Stage
stage_of n =
    if n == 1 then Some stage.FirstSync
    else (if n == 2 then Some stage.Header
    else (if n == 3 then Some stage.TakeBack
    else (if n == 4 then Some stage.SettleBack
    else (if n == 5 then Some stage.ListMap
    else (if n == 6 then Some stage.ListPage
    else (if n == 7 then Some stage.NumberMap
    else (if n == 8 then Some stage.NumberPage
    else (if n == 9 then Some stage.DataMap
    else (if n == 10 then Some stage.DataPage
    else (if n == 11 then Some stage.Place else (if n == 12 then Some stage.Ended else None)))))))))))
