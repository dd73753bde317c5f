mod ListLaws
mod DraftLaws
mod MakeLaws
mod SortForms
mod SizeLaws
mod RebuildLaws
mod SortLaws
