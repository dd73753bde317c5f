mod PremiseLaws
mod EachLaws
