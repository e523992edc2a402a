-- Worked examples, computed from the definitions.
use Rattle.std.proofs.Common.{◌≡◌, ◌+◌, true, refl}
use Rattle.definitions.specs.NumberPages.{meta_of}
use Rattle.plain_machine.specs.Image.{maps_of, maps_read}
use Rattle.plain_machine.specs.Image.{page_place, map_place, is_map_write}
use Rattle.plain_machine.specs.Loader.{need}

-- 509 pages and their two others fill the first map: a second one follows, and isn't read
pub last_entry_fills_the_map : maps_of (509 + meta_of 509 + 1) ≡ 2
last_entry_fills_the_map = refl

pub one_map_is_read : maps_read (509 + meta_of 509 + 1) ≡ 1
one_map_is_read = refl

-- with 510 the second map has an entry
pub one_page_past_the_map : maps_read (510 + meta_of 510 + 1) ≡ 2
one_page_past_the_map = refl

-- 512 numbers take one page, 513 two
pub a_full_number_page : meta_of 512 ≡ 1
a_full_number_page = refl

pub one_number_more : meta_of 513 ≡ 2
one_number_more = refl

-- the steps of the hibernation of 1500, 510 and 8 page frames
pub steps_of_1500 : 1500 + meta_of 1500 + 1 + maps_of (1500 + meta_of 1500 + 1) + 4 ≡ 1511
steps_of_1500 = refl

pub steps_of_510 : 510 + meta_of 510 + 1 + maps_of (510 + meta_of 510 + 1) + 4 ≡ 518
steps_of_510 = refl

pub steps_of_8 : 8 + meta_of 8 + 1 + maps_of (8 + meta_of 8 + 1) + 4 ≡ 15
steps_of_8 = refl

-- what a loader needs for 85 and 86 pages
pub need_85 : need 85 ≡ 87
need_85 = refl

pub need_86 : need 86 ≡ 89
need_86 = refl

-- On an empty area slot k + 1 is the free one at place k. The 511 pages of an image of 509 page frames fill the first map:
-- it is at block 1, its entries are blocks 2 to 512, the second map is at block 513, and has no entry.
pub first_page_place : page_place 0 + 1 ≡ 2
first_page_place = refl

pub last_page_place : page_place 510 + 1 ≡ 512
last_page_place = refl

pub second_map_place : map_place 1 + 1 ≡ 513
second_map_place = refl

pub full_map_is_written : is_map_write 511 511 ≡ true
full_map_is_written = refl

pub last_map_is_written : is_map_write 511 512 ≡ true
last_map_is_written = refl

-- with 510 page frames the second map's first entry is block 514
pub page_past_the_map : page_place 511 + 1 ≡ 514
page_past_the_map = refl
