-- What is written of an image as a stream.
use Rattle.std.specs.Prelude.{◌≡◌, ℕ, ◌⊎◌, List, [], ◌++◌, Option, IfSome}
use Rattle.std.specs.List.{concat}
use Rattle.page_core.specs.declared.format.Format.TheVariants.{Plain}
use Rattle.definitions.specs.Disk.{Content, DiskImage, HasRisen, as_it_reads}
use Rattle.definitions.specs.Streams.{TakesAll, TakesFront}
use Rattle.image_check.specs.Told.{Told}
use Rattle.image_pages.specs.AreRead.{AreRead}
use Rattle.image_pages.specs.Chain.{IsWholeStream, chain_page}
use Rattle.image_pages.specs.Ends.{IsEnded, IsRefused}
use Rattle.image_pages.specs.Opens.{IsBadHeader, IsNoImage}
use Rattle.image_pages.specs.Formats.{SavesThere, chain_format}
use Rattle.image_stream.specs.Converted.{AreAllPieces, ArePieces}
use Rattle.image_stream.specs.Plain.{plain_stream}
use Rattle.image_stream.specs.declared.streaming.Stop.{Stop}
use Rattle.image_stream.specs.declared.streaming.Stop.TheVariants as stop
use Rattle.image_stream.specs.declared.streaming.Streamed.{Streamed}
use Rattle.image_stream.specs.declared.streaming.Streamed.TheVariants.{NoImage, Refused, Whole}

-- the stream in the plain format of the image that the chain names
abbrev pub chain_stream : DiskImage → ℕ → List (List ℕ)
chain_stream v header = plain_stream (chain_format v header) (chain_page v header)

-- these pages are that stream, or its first ones, if the disk tells what it holds
abbrev pub IsStream : Option Content → ℕ → List (List ℕ) → Type 0
IsStream content header pieces = IfSome content (λ held. pieces ≡ chain_stream (as_it_reads held) header)

abbrev pub IsBegun : Option Content → ℕ → List (List ℕ) → Type 0
IsBegun content header pieces =
    IfSome content (λ held. (rest : List (List ℕ)) × (chain_stream (as_it_reads held) header ≡ pieces ++ rest))

-- the pages of a plain image, and nothing is wrong with a whole reading of it
pub record ArePlain (content : Option Content) (blocks header before now : ℕ) (pieces : List (List ℕ)) : Type 0 where
  pub ended : IsEnded content blocks header before now pieces
  pub whole : IsWholeStream content header pieces
  pub plain : SavesThere Plain content blocks header

-- these pages are as they were read: those of a plain image, or none yet
abbrev pub AreAsRead : Option Content → (blocks header : ℕ) → List (List ℕ) → Type 0
AreAsRead content blocks header pieces = SavesThere Plain content blocks header ⊎ (pieces ≡ [])

-- All pages of the stream were written: those of a plain image as they were read, or those made from one that skips
-- pages of zeros.
pub record IsWritten (content : Option Content) (blocks header before now : ℕ)
    (old new : Option (List ℕ)) : Type 0 where
  pub pieces : List (List ℕ)
  pub read : ArePlain content blocks header before now pieces ⊎ AreAllPieces content blocks header before now pieces
  pub stream : IsStream content header pieces
  pub taken : TakesAll (concat pieces) old new

-- The first pages of the stream were written, up to the first name with findings, and exactly these are reported. Of a
-- plain image, all pages that were read were written.
pub record IsCutShort (content : Option Content) (blocks header before now : ℕ) (told then : Told)
    (old new : Option (List ℕ)) : Type 0 where
  pub pieces : List (List ℕ)
  pub refused : (IsRefused content blocks header before now told then pieces × AreAsRead content blocks header pieces)
      ⊎ (ArePieces content blocks header pieces
      × ((pages : List (List ℕ)) × IsRefused content blocks header before now told then pages))
  pub begun : IsBegun content header pieces
  pub taken : TakesAll (concat pieces) old new

-- a prefix of the stream was written, from pages that were read
pub record IsFront (content : Option Content) (blocks header : ℕ) (old new : Option (List ℕ)) : Type 0 where
  pub pieces : List (List ℕ)
  pub read : (AreRead content blocks header pieces × AreAsRead content blocks header pieces)
      ⊎ ArePieces content blocks header pieces
  pub begun : IsBegun content header pieces
  pub taken : TakesFront (concat pieces) old new

abbrev pub IsStreamed : Option Content → (blocks header before now : ℕ) → (told then : Told) →
    (old new : Option (List ℕ)) → Streamed → Type 0
IsStreamed content blocks header before now told then old new NoImage =
    IsNoImage content blocks header told then × (new ≡ old)
IsStreamed content blocks header before now told then old new Refused =
    (IsBadHeader content blocks header before now told then × (new ≡ old))
    ⊎ IsCutShort content blocks header before now told then old new
IsStreamed content blocks header before now told then old new Whole =
    IsWritten content blocks header before now old new × (then ≡ told)

abbrev pub IsStopped : Option Content → (blocks header before now : ℕ) → (old new : Option (List ℕ)) → Stop → Type 0
IsStopped content blocks header before now old new stop.Sink =
    HasRisen before now × IsFront content blocks header old new
IsStopped content blocks header before now old new stop.Memory = new ≡ old
