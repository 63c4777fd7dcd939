-- A reader finds in a made file the FLM file of its listing.
mod WriteLemmas
mod TextLemmas
mod PlaceLemmas
mod SearchLemmas
mod StringLemmas
mod HeaderLemmas
mod LayoutLemmas
mod SectionLemmas
mod SymbolLemmas
mod LookupLemmas
mod PartLemmas
mod DescriptionLemmas
mod EntryLemmas
mod ReadLemmas
mod ForgeLemmas
mod RegionLemmas
